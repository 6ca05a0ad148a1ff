-- Definition: the minimum and the maximum of a list.
use Rattle.std.specs.Prelude.{ℤ, ◌≤ℤ◌, List, All, Contains}

pub record IsLeast (value : ℤ) (values : List ℤ) : Type 0 where
  pub among : Contains values value
  pub below : All (λ other. value ≤ℤ other) values

pub record IsGreatest (value : ℤ) (values : List ℤ) : Type 0 where
  pub among : Contains values value
  pub above : All (λ other. other ≤ℤ value) values
