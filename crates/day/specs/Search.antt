-- The first number that a test picks out.
use Rattle.std.specs.Prelude.{Bool, cond, suc, zero, ℕ, ltb}

-- the first number below n at which the test holds, or n where there is none
unfoldable pub first_where : (ℕ → Bool) → ℕ → ℕ
first_where test zero = 0
first_where test (suc n) = let k = first_where test n in cond (ltb k n) k (cond (test n) n (suc n))
