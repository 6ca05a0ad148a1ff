use Rattle.rrd_file.proofs.Common.{All, rules, ◌≡◌, ◌∙◌, ◌++◌, ◌≤◌, ◌-◌, List, [], ◌∷◌, ◌+◌, get_or, length-take, ℕ, ap, append_assoc, arith, drop, length, length-append, sym, take, take_all, take_at, front_bytes, journal_bytes, IsBeside, span, updated_agrees}
use Rattle.rrd_file.specs.Encoded.{cell_bytes}
use Rattle.std.proofs.lemmas.List.{drop_at, length-drop}
use Rattle.rrd_file.proofs.encoded.Encoded.updated.Goals as goal

pub journal_after-requires : goal.journal_after-requires
journal_after-requires c =
    let e = c.requires.encodes in
    let before = c.requires.before in
    let first = front_bytes before ++ cell_bytes before.content in
    let end = c.args.self.cells_end in
    let bytes = c.deref.result.now in
    let same : bytes ≡ c.args.self.bytes.items = search rules in
    let both : length first ≡ end = omega (arith, length-append (front_bytes before) (cell_bytes before.content), e.cells_begin, e.cells_end) in
    let rest : drop end bytes ≡ journal_bytes before =
    ap (drop end) (same ∙ e.bytes_are ∙ sym (append_assoc (front_bytes before) (cell_bytes before.content) (journal_bytes before))) ∙ drop_at first (journal_bytes before) end both in
    record {
      before = before;
      bytes_are = take_all (length bytes - end) (drop end bytes) (omega (arith, length-drop end bytes)) ∙ rest;
      adds = c.requires.adds;
    }

pub put_before_journal-requires : goal.put_before_journal-requires
put_before_journal-requires c =
    let same : c.make_room.new.bytes.items ≡ c.args.self.bytes.items = search rules in
    let before = c.requires.before in
    let e = c.requires.encodes in
    let front = front_bytes before in
    let cells = cell_bytes before.content in
    let journal = journal_bytes before in
    let both : length (front ++ cells) ≡ c.args.self.cells_end = omega (arith, length-append front cells, e.cells_begin, e.cells_end) in
    let left : c.truncate.new.self.items ≡ front ++ cells =
    c.truncate.ensures.items ∙ ap (take c.args.self.cells_end) (same ∙ e.bytes_are ∙ sym (append_assoc front cells journal)) ∙ take_at (front ++ cells) journal c.args.self.cells_end both in
    grind (arith, front, cells, c.deref_mut.ensures.value ∙ left)

pub returns : goal.returns
returns c =
    let before = c.requires.before in
    let now = c.args.database.now in
    let e = c.requires.encodes in
    let cells = cell_bytes now.content in
    let journal = journal_bytes now in
    let last : c.deref-3.result.now ≡ journal = search rules in
    let front_is : c.encode_front.new.out.items ≡ front_bytes now = search rules in
    let put_it : c.put_before_journal.new.bytes ≡ c.deref-2.result.now ++ cells = search rules in
    let bytes = c.put_before_journal.new.bytes in
    let front_long : c.args.self.cells_at ≡ length (front_bytes now) = omega (arith, c.if-len-cells_at.false, c.len.ensures, c.deref-2.ensures.len, ap length (c.deref-2.ensures.value ∙ front_is)) in
    let at = c.args.self.cells_at in
    let end = c.args.self.cells_end in
    let first : c.push.new.self.items ≡ c.put_before_journal.new.changed.items ++ span 0 at ∷ [] = search rules in
    let second : c.push-2.new.self.items ≡ c.push.new.self.items ++ span end c.len-2.result ∷ [] = search rules in
    let few : length c.extend_from_slice.new.self.items ≤ c.len-2.result = omega (arith, c.len-2.ensures, c.extend_from_slice.new.self.ok) in
    record {
      encodes =
          let same : c.make_room.new.bytes.items ≡ c.args.self.bytes.items = search rules in
          let put : c.put_before_journal.new.bytes ≡ front_bytes now ++ cells = put_it ∙ ap (λ (l : List ℕ). l ++ cells) (c.deref-2.ensures.value ∙ front_is) in
          let room : length bytes ≡ c.truncate.new.self.len = omega (arith, c.put_before_journal.auto.bytes, c.deref_mut.ensures.len) in
          let had : take c.truncate.new.self.len (bytes ++ drop (length bytes) c.truncate.new.self.items) ≡ bytes = take_at bytes (drop (length bytes) c.truncate.new.self.items) c.truncate.new.self.len room in
          let added : c.extend_from_slice.new.self.items ≡ take c.truncate.new.self.len (bytes ++ drop (length bytes) c.truncate.new.self.items) ++ c.deref-3.result.now = search rules in
          let all : c.extend_from_slice.new.self.items ≡ bytes ++ journal = added ∙ ap (λ (l : List ℕ). l ++ c.deref-3.result.now) had ∙ ap (λ (l : List ℕ). bytes ++ l) last in
          let front = front_bytes before in
          let old = cell_bytes before.content in
          let was : length (front ++ old) ≡ c.args.self.cells_end = omega (arith, length-append front old, e.cells_begin, e.cells_end) in
          let left : c.truncate.new.self.items ≡ front ++ old =
          c.truncate.ensures.items ∙ ap (take c.args.self.cells_end) (same ∙ e.bytes_are ∙ sym (append_assoc front old (journal_bytes before))) ∙ take_at (front ++ old) (journal_bytes before) c.args.self.cells_end was in
          record {
            bytes_are = all ∙ ap (λ (l : List ℕ). l ++ journal) put ∙ append_assoc (front_bytes now) cells journal;
            cells_begin = front_long;
            cells_end = omega (arith, was, ap length (c.deref_mut.ensures.value ∙ left), c.put_before_journal.auto.bytes, ap length put, length-append (front_bytes now) cells, front_long);
            last_is = c.last.ensures;
          };
      agrees =
          let same : c.make_room.new.bytes.items ≡ c.args.self.bytes.items = search rules in
          let old = c.args.self.bytes.items in
          let put = c.put_before_journal.new.bytes in
          let long : length old ≡ end + length (journal_bytes before) =
          ap length e.bytes_are ∙ length-append (front_bytes before) (cell_bytes before.content ++ journal_bytes before)
          ∙ omega (arith, length-append (cell_bytes before.content) (journal_bytes before), e.cells_begin, e.cells_end) in
          let cut : c.deref_mut.result.now ≡ take end old = c.deref_mut.ensures.value ∙ c.truncate.ensures.items ∙ ap (take end) same in
          let cut_long : length put ≡ end = omega (arith, c.put_before_journal.auto.bytes, ap length cut, length-take end old, long) in
          let room : length put ≡ c.truncate.new.self.len = omega (arith, c.put_before_journal.auto.bytes, c.deref_mut.ensures.len) in
          let had : take c.truncate.new.self.len (put ++ drop (length put) c.truncate.new.self.items) ≡ put = take_at put (drop (length put) c.truncate.new.self.items) c.truncate.new.self.len room in
          let added : c.extend_from_slice.new.self.items ≡ take c.truncate.new.self.len (put ++ drop (length put) c.truncate.new.self.items) ++ c.deref-3.result.now = search rules in
          let all : c.extend_from_slice.new.self.items ≡ put ++ journal = added ∙ ap (λ (l : List ℕ). l ++ c.deref-3.result.now) had ∙ ap (λ (l : List ℕ). put ++ l) last in
          let same : (k : ℕ) → length c.deref-2.result.now ≤ k → All (IsBeside k) c.put_before_journal.new.changed.items → get_or put k 0 ≡ get_or c.deref_mut.result.now k 0 = search rules in
          let front : length c.deref-2.result.now ≡ at = omega (arith, c.if-len-cells_at.false, c.len.ensures, c.deref-2.ensures.len) in
          updated_agrees old c.deref_mut.result.now put c.extend_from_slice.new.self.items journal c.put_before_journal.new.changed.items c.push.new.self.items c.push-2.new.self.items at end c.len-2.result
          (omega (arith, long)) cut cut_long all few first second
          (λ k past beside. same k (omega (arith, front, past)) beside);
    }
