-- The schoolbook root (02, Item 2): two digits of the square for one of the root, from the front.
use Rattle.std.specs.Prelude.{List, ◌≡◌, ◌%◌, ◌*◌, ◌+◌, ◌-◌, ◌/◌, ◌<◌, ◌^◌, ℕ, get_or}
use Rattle.numbers.specs.Root.{Greatest, root, square}
use Rattle.numbers.specs.declared.root.SoFar.{SoFar}

-- the pairs of digits that a number of 64 bits has
abbrev pub pairs : ℕ
pairs = 10

-- the digits taken so far: the first k pairs of x
unfoldable pub taken : ℕ → ℕ → ℕ
taken x k = x / 100 ^ (pairs - k)

-- the pair that is taken after k others
unfoldable pub pair : ℕ → ℕ → ℕ
pair x k = taken x (k + 1) % 100

-- before the first pair nothing is taken, each pair stands behind the digits taken before it, and after the last pair all of x is taken
pub record PairByPair (x : ℕ) : Type 0 where
  pub none_yet : x < 100 ^ pairs → taken x 0 ≡ 0
  pub next : (k : ℕ) → k < pairs → taken x (k + 1) ≡ 100 * taken x k + pair x k
  pub all : taken x pairs ≡ x

-- the digits that a root and its remainder come from
abbrev pub digits_of : SoFar → ℕ
digits_of s = square s.root + s.remainder

-- after each digit the root so far is the greatest whole number whose square isn't above the digits taken; the remainder is what its square leaves of them
pub record AfterDigit (digits : ℕ) (so_far : SoFar) : Type 0 where
  pub root_so_far : Greatest square digits so_far.root
  pub left_over : digits_of so_far ≡ digits

-- after the last digit that is the root
abbrev pub LastIsRoot : Type 0
LastIsRoot = (x : ℕ) (so_far : SoFar) → AfterDigit (taken x pairs) so_far → so_far.root ≡ root x

-- one pair more is one digit of the root more: those found before it stay
abbrev pub OneDigitMore : Type 0
OneDigitMore = (digits next : ℕ) → next < 100 → root (100 * digits + next) / 10 ≡ root digits

-- the example at the top of src/root.rt
pub record Worked : Type 0 where
  pub one : root (taken 1_522_756 7) ≡ 1
  pub two : root (taken 1_522_756 8) ≡ 12
  pub three : root (taken 1_522_756 9) ≡ 123
  pub all : root 1_522_756 ≡ 1_234
  pub no_square : root 200 ≡ 14

-- ---- how it is worked

-- all pairs of x, from the front
abbrev pub PairsOf : ℕ → List ℕ → Type 0
PairsOf x marked = (k : ℕ) → k < pairs → get_or marked k 0 ≡ pair x k

-- what the digit d takes, beside twenty times the root so far
abbrev pub taking : ℕ → ℕ → ℕ
taking twentyfold d = (twentyfold + d) * d
