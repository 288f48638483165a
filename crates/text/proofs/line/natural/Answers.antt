-- `text::line::natural` meets its contract. The invariant: what is left are digits, and with them the value becomes that of the word.
use mathlib.Core.Path.{◌∙◌, ◌≡◌, refl, subst, sym}
use mathlib.Core.Bool.{true}
use mathlib.Core.List.{List}
use Prim.Native.Nat.{◌*◌, ◌+◌, ◌-◌, ◌<◌, ◌≤◌, ℕ}
use native.Mathlib.Omega.{arith}
use lib.ListN.{drop, get_or, length}
use Rattle.text.specs.Line.{is_digit, is_natural}
use Rattle.text.proofs.LineLaws.{all_digits, digit_least, digit_most, natural_below, passes_after, passes_here, value_at, value_grows, value_over}
use Rattle.text.proofs.line.natural.Invariants.{Partly}
use Rattle.text.proofs.line.natural.Goals as goal

-- one digit more
module _ {word : List ℕ} {value i : ℕ} (e : is_natural 10 word ≡ true) (p : Partly word value i) (h : i < length word) where
  abbrev here : is_digit (get_or word i 0) ≡ true
  here = passes_here word i h is_digit p.digits

  here_least : 48 ≤ get_or word i 0
  here_least = digit_least (get_or word i 0) here

  here_most : get_or word i 0 ≤ 57
  here_most = digit_most (get_or word i 0) here

  abbrev next : ℕ
  next = value * 10 + (get_or word i 0 - 48)

  onward : Partly word next (i + 1)
  onward = record { digits = passes_after word i h is_digit p.digits; same = p.same ∙ value_at word i h value }

  next_below : next < 10_000_000_000
  next_below = omega (arith, value_grows next (drop (i + 1) word), onward.same, natural_below word e)

pub loop-digit-init : goal.loop-digit-init
loop-digit-init c = record { digits = all_digits 10 c.args.word.now c.requires; same = refl }

pub overflow_mul-value : goal.overflow_mul-value
overflow_mul-value c = record { fits = omega (arith, next_below c.requires c.loop-digit.invariant c.loop-digit-test.true) }

pub overflow_sub-digit : goal.overflow_sub-digit
overflow_sub-digit c = here_least c.requires c.loop-digit.invariant c.loop-digit-test.true

pub overflow_add-value : goal.overflow_add-value
overflow_add-value c = record { fits = omega (arith, next_below c.requires c.loop-digit.invariant c.loop-digit-test.true) }

pub loop-digit-preserved : goal.loop-digit-preserved
loop-digit-preserved c =
    subst (λ (n : ℕ). Partly c.args.word.now (c.loop-digit.value * 10 + n) (c.loop-digit.digit-index + 1)) (sym c.from.ensures)
    (onward c.requires c.loop-digit.invariant c.loop-digit-test.true)

pub returns : goal.returns
returns c = sym (c.loop-digit.invariant.same ∙ value_over c.args.word.now c.loop-digit.digit-index c.loop-digit-test.false c.loop-digit.value)
