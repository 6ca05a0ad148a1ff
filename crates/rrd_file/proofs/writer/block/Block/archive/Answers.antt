use Rattle.rrd_file.proofs.Common.{◌≡◌, ◌∙◌, ◌++◌, [], ◌∷◌, unsigned_abs, ap, arith, w128, ints, to_z-of_z, SFits, four_bytes, function_byte, four_parts}
use Rattle.rrd_file.proofs.writer.block.Block.archive.Goals as goal

pub returns : goal.returns
returns c =
    let def = c.args.archive.now in
    let fits : SFits w128 def.xff = omega (arith, ints, c.requires.xff) in
    let xff : c.unsigned_abs.result ≡ unsigned_abs def.xff = c.unsigned_abs.ensures.value ∙ ap (λ z. unsigned_abs z) (to_z-of_z {w = w128} fits) in
    four_parts (function_byte def.function ∷ []) (four_bytes def.steps) (four_bytes (unsigned_abs def.xff)) (four_bytes def.rows) c.args.self.now c.byte.new.self c.four.new.self c.four-2.new.self c.four-3.new.self
    (c.byte.ensures ∙ ap (λ n. c.args.self.now ++ n ∷ []) c.function_byte.ensures) c.four.ensures (c.four-2.ensures ∙ ap (λ n. c.four.new.self ++ four_bytes n) xff) c.four-3.ensures
