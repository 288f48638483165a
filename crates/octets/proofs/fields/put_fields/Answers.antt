-- `fields::put_fields` meets its contract. The invariant: the fields so far are stored.
use mathlib.Core.List.{List}
use mathlib.Core.Path.{refl, subst}
use Prim.Native.Nat.{◌<◌, ◌≤◌, ℕ}
use native.Mathlib.Omega.{arith}
use lib.ListN.{length}
use lib.Seq.{take_all}
use Rattle.octets.specs.Octets.{joined}
use Rattle.octets.specs.Put.{Put}
use Rattle.octets.proofs.FieldLaws.{field_room, put_field}
use Rattle.octets.proofs.PutLaws.{put_length, put_none}
use Rattle.octets.proofs.fields.put_fields.Goals as goal
use Rattle.octets.proofs.fields.put_fields.Goals.{In-loop-field, Start}

-- a turn: its field
module _ (c : In-loop-field) where
  abbrev s : Start
  s = (goal.at.In-loop-field c).Start

  abbrev field : ℕ
  field = c.loop-field.field

  within : field < length s.args.widths.now
  within = omega (arith, s.requires.1, c.loop-field-test.true)

pub loop-field-init : goal.loop-field-init
unfolding joined
loop-field-init c = put_none c.args.out.now c.args.at

pub put_number-next-requires : goal.put_number-next-requires
put_number-next-requires c =
    let k = (goal.at.put_number-next-requires c).In-loop-field in
    let a = (s k).args in
    field_room a.widths.now a.numbers.now (field k) (within k) (s k).requires.1 _ refl k.loop-field.invariant (s k).requires.0

pub loop-field-preserved : goal.loop-field-preserved
loop-field-preserved c =
    let k = (goal.at.loop-field-preserved c).In-loop-field in
    let a = (s k).args in
    put_field a.widths.now a.numbers.now (field k) (within k) (s k).requires.1 _ refl k.loop-field.invariant c.put_number-next.ensures

pub shape_of-out : goal.shape_of-out
shape_of-out c = put_length c.loop-field.invariant

pub returns : goal.returns
returns c =
    let end : length c.args.numbers.now ≤ c.loop-field.field = omega (arith, c.loop-field-test.false) in
    subst (λ (o : List ℕ). Put c.args.out.now c.args.at o c.loop-field.out c.loop-field.next)
    (λ i. joined (take_all c.loop-field.field c.args.widths.now (omega (arith, c.requires.1, end)) i) (take_all c.loop-field.field c.args.numbers.now end i)) c.loop-field.invariant
