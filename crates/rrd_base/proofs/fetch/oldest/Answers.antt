use Rattle.rrd_base.proofs.Common.{◌≡◌, ◌∙◌, ap, ℕ, ◌+◌, ◌-◌, ◌*◌, ◌/◌, ◌^◌, ◌<◌, ◌≤◌, arith, pos, ◌+ℤ◌, ◌-ℤ◌, ints, mul-le, to_z, of_z, w64}
use Rattle.rrd_base.proofs.fetch.oldest.Goals as goal

difference_fits : (m n : ℕ) → m ≤ 10 ^ 10 → n ≤ 10 ^ 18 → to_z w64 (of_z w64 (to_z w64 m -ℤ to_z w64 n)) ≡ pos m -ℤ pos n
difference_fits m n h k = omega (arith, ints)

rounded : (n size : ℕ) → 0 < size → n / size * size ≤ n
rounded n size some = omega arith

-- the time after which the rows reach, and a row more
one_row_on : (end rows fewer size : ℕ) → rows ≡ fewer + 1 → pos end -ℤ pos (fewer * size) ≡ (pos end -ℤ pos (rows * size)) +ℤ pos ((0 + 1) * size)
one_row_on end rows fewer size e =
    let whole : rows * size ≡ fewer * size + size = rw e (omega arith) in
    omega (arith, ints, whole)

pub returns : goal.returns
returns c =
    let def = c.args.def.now in
    let size = c.resolution-resolution.result in
    let is = c.resolution-resolution.ensures in
    let fewer : def.rows - 1 ≤ 1000000 = omega (arith, c.requires.few_rows) in
    let few : (def.rows - 1) * size ≤ 10 ^ 18 = omega (arith, mul-le (def.rows - 1) size 1000000 (10 ^ 12) fewer is.small) in
    let low : c.args.last / size * size ≤ 10 ^ 10 = omega (arith, c.requires.good_last, rounded c.args.last size is.some) in
    difference_fits (c.args.last / size * size) ((def.rows - 1) * size) low few
    ∙ one_row_on (c.args.last / size * size) def.rows (def.rows - 1) size (omega (arith, c.requires.some_rows))
    ∙ ap (λ (n : ℕ). (pos (c.args.last / n * n) -ℤ pos (def.rows * n)) +ℤ pos ((0 + 1) * n)) is.value
