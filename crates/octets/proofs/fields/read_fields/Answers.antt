-- `fields::read_fields` meets its contract. The invariant: the fields so far are read, and the place is behind them.
use mathlib.Core.List.{List, [], ◌++◌, ◌∷◌}
use mathlib.Core.Path.{◌∙◌, ◌≡◌, ap, refl, sym}
use Prim.Native.Nat.{◌+◌, ◌<◌, ◌≤◌, suc, ℕ}
use native.Mathlib.Numerals.{add-one}
use native.Mathlib.Omega.{arith}
use lib.ListN.{drop, get_or, length, length-set, set, take}
use lib.Seq.{take_all, take-suc-set}
use Rattle.octets.specs.Octets.{number, parted, total}
use Rattle.octets.proofs.FieldLaws.{narrow_at, parted_next, total_most, total_next}
use Rattle.octets.proofs.fields.read_fields.Goals as goal

-- one field more
module _ (octets widths numbers : List ℕ) (field : ℕ) (h : field < length widths) (l : length numbers ≡ length widths) where
  room : total widths ≤ length octets → total (take field widths) + get_or widths field 0 ≤ length octets
  room r = omega (arith, total_next widths field h, total_most widths (suc field))

  place_next : total (take field widths) + get_or widths field 0 ≡ total (take (field + 1) widths)
  place_next = total_next widths field h ∙ ap (λ (n : ℕ). total (take n widths)) (sym (add-one field))

  one_more : (at value : ℕ) → take field numbers ≡ parted (take field widths) octets → at ≡ total (take field widths) → value ≡ number (take (get_or widths field 0) (drop at octets))
      → take (field + 1) (set numbers field value) ≡ parted (take (field + 1) widths) octets
  one_more at value so_far place is =
      ap (λ (n : ℕ). take n (set numbers field value)) (add-one field)
      ∙ take-suc-set numbers field value (omega arith)
      ∙ (λ i. so_far i ++ ((is ∙ ap (λ (n : ℕ). number (take (get_or widths field 0) (drop n octets))) place) i ∷ []))
      ∙ parted_next widths octets field h
      ∙ ap (λ (n : ℕ). parted (take n widths) octets) (sym (add-one field))

pub loop-field-init : goal.loop-field-init
unfolding total parted
loop-field-init c = (c.requires.1.1, refl, refl)

pub number_at-requires : goal.number_at-requires
number_at-requires c =
    let a = c.args in (
      omega (arith, c.loop-field.invariant.1, room a.octets.now a.widths.now c.loop-field.numbers c.loop-field.field c.loop-field-test.true c.loop-field.invariant.0 c.requires.0),
      narrow_at a.widths.now c.requires.1.0 c.loop-field.field,
    )

pub bounds-numbers-field : goal.bounds-numbers-field
bounds-numbers-field c = omega (arith, c.loop-field.invariant.0, c.loop-field-test.true)

pub overflow_add-at : goal.overflow_add-at
overflow_add-at c =
    let a = c.args in
    omega (arith, c.loop-field.invariant.1, room a.octets.now a.widths.now c.loop-field.numbers c.loop-field.field c.loop-field-test.true c.loop-field.invariant.0 c.requires.0, c.well_formed)

pub loop-field-preserved : goal.loop-field-preserved
loop-field-preserved c =
    let a = c.args in
    let here : c.loop-field.field < length a.widths.now = c.loop-field-test.true in (
      length-set c.loop-field.numbers c.loop-field.field c.number_at.result ∙ c.loop-field.invariant.0,
      ap (λ (n : ℕ). n + get_or a.widths.now c.loop-field.field 0) c.loop-field.invariant.1 ∙ place_next a.octets.now a.widths.now c.loop-field.numbers c.loop-field.field here c.loop-field.invariant.0,
      one_more a.octets.now a.widths.now c.loop-field.numbers c.loop-field.field here c.loop-field.invariant.0 c.loop-field.at c.number_at.result
          c.loop-field.invariant.2 c.loop-field.invariant.1 c.number_at.ensures,
    )

pub shape_of-numbers : goal.shape_of-numbers
shape_of-numbers c = c.loop-field.invariant.0 ∙ sym c.requires.1.1

pub returns : goal.returns
returns c =
    let a = c.args in
    let end : length a.widths.now ≤ c.loop-field.field = omega (arith, c.loop-field-test.false) in
    sym (take_all c.loop-field.field c.loop-field.numbers (omega (arith, c.loop-field.invariant.0, end)))
    ∙ c.loop-field.invariant.2
    ∙ ap (λ (w : List ℕ). parted w a.octets.now) (take_all c.loop-field.field a.widths.now end)
