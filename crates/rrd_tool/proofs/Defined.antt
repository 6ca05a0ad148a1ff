-- The sources and the archives among the definitions that are read.
use Rattle.std.specs.Prelude.{◌≡◌, ◌+◌, ◌<◌, ◌++◌, ◌∷◌, ℕ, List, [], Result, Ok, Err, length, drop}
use Rattle.rrd_tool.proofs.Names.{arith, ◌∙◌, ap, refl, sym, get_or, Text, DsDef, RraDef, definitions_of, archives_in, definition_of, sources_in, Meets, each_of, or_fault, LineFault, Usage, BadWord, OutOfMemory, Definition}
use Rattle.rrd_tool.proofs.Each.{prepend, word_fails, word_more}
use Rattle.rrd_tool.specs.declared.faults.Part.TheVariants as part

sources_of_both : (xs ys : List Definition) → sources_in (xs ++ ys) ≡ sources_in xs ++ sources_in ys
sources_of_both [] ys = refl
sources_of_both (Definition.Source source ∷ xs) ys = ap (λ l. source ∷ l) (sources_of_both xs ys)
sources_of_both (Definition.Archive archive ∷ xs) ys = sources_of_both xs ys

archives_of_both : (xs ys : List Definition) → archives_in (xs ++ ys) ≡ archives_in xs ++ archives_in ys
archives_of_both [] ys = refl
archives_of_both (Definition.Source source ∷ xs) ys = archives_of_both xs ys
archives_of_both (Definition.Archive archive ∷ xs) ys = ap (λ l. archive ∷ l) (archives_of_both xs ys)

-- after i words these sources and archives are read
abbrev pub HasRead : List Text → ℕ → List DsDef → List RraDef → Type 0
HasRead words i sources archives =
    (read : List Definition)
    × (sources_in read ≡ sources)
    × (archives_in read ≡ archives)
    × (each_of definition_of part.Definition 1 words ≡ prepend read (each_of definition_of part.Definition (i + 1) (drop i words)))

-- one more definition is read
pub read_more : (words : List Text) (i : ℕ) (word : Text) (d : Definition) (sources more_sources : List DsDef) (archives more_archives : List RraDef)
    → HasRead words i sources archives → i < length words → get_or words i [] ≡ word
    → or_fault part.Definition (i + 1) (definition_of word) ≡ Ok d
    → more_sources ≡ sources ++ sources_in (d ∷ []) → more_archives ≡ archives ++ archives_in (d ∷ [])
    → HasRead words (i + 1) more_sources more_archives
read_more words i word d sources more_sources archives more_archives h inside here reads s a = (
  h.0 ++ d ∷ [],
  sources_of_both h.0 (d ∷ []) ∙ ap (λ l. l ++ sources_in (d ∷ [])) h.1 ∙ sym s,
  archives_of_both h.0 (d ∷ []) ∙ ap (λ l. l ++ archives_in (d ∷ [])) h.2 ∙ sym a,
  h.3 ∙ word_more definition_of part.Definition (i + 1) words i word h.0 d inside here reads,
)

-- a fault of all definitions is one of what they define
pub defined_fails : (words : List Text) (answer : Result (List Definition) LineFault) (defined : Result (List DsDef × List RraDef) LineFault) (fault : LineFault)
    → answer ≡ Err fault → defined ≡ Err fault → Meets (each_of definition_of part.Definition 1 words) answer → Meets (definitions_of words) defined
defined_fails words answer defined Usage a d m = let bad : Meets (each_of definition_of part.Definition 1 words) (Err Usage) = rw a at m in absurd bad
defined_fails words answer defined OutOfMemory a d m = rw d tt
defined_fails words answer defined (BadWord p n) a d m = grind arith

-- a definition that can't be read ends it
pub read_fails : (words : List Text) (i : ℕ) (word : Text) (sources : List DsDef) (archives : List RraDef)
    (answer : Result (List DsDef × List RraDef) LineFault) (fault : LineFault)
    → HasRead words i sources archives → i < length words → get_or words i [] ≡ word → answer ≡ Err fault
    → Meets (or_fault part.Definition (i + 1) (definition_of word)) (Err fault) → Meets (definitions_of words) answer
read_fails words i word sources archives answer fault h inside here e m =
    defined_fails words (Err fault) answer fault refl e
    (word_fails definition_of part.Definition (i + 1) words i word h.0 _ (Err fault) fault inside here h.3 refl m)
