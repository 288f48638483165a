-- `overlap::overlap::Disks::lens` meets its contract.
use mathlib.Core.Path.{◌∙◌, ap}
use Prim.Native.Nat.{◌+◌, ◌-◌, ℕ}
use native.Mathlib.Omega.{arith}
use Rattle.numbers.proofs.Machine.{Mirror, ◌⊕◌, ◌⊗◌, bounded, fits, from_nat, gave, kept, small_floor_gave}
use Rattle.overlap.specs.Overlap.{lens, piece, sun_height}
use Rattle.overlap.proofs.OverlapLaws.{height_within, over_sun, piece_most}
use Rattle.overlap.proofs.overlap.Disks.lens.Goals as goal
use Rattle.overlap.proofs.overlap.Disks.lens.Goals.{After-floor_div, After-floor_div-once, After-piece-moon_piece, Start}

module _ (s : Start) where
  abbrev apart : ℕ
  apart = s.args.self.apart

  abbrev rs : ℕ
  rs = s.args.self.sun

  abbrev rm : ℕ
  rm = s.args.self.moon

  abbrev height : ℕ
  height = sun_height apart rs rm

  abbrev moon_radius : Mirror
  moon_radius = from_nat {n = rm} s.requires.radii.moon_most tt

module _ (c : After-piece-moon_piece) where
  abbrev from : Start
  from = c.before.before.before

  abbrev rest : ℕ
  rest = rs from + rm from - apart from - height from

  abbrev sun : Mirror
  sun =
      gave {v = piece (rs from) (height from)} c.piece-sun_piece.type_inv
      (c.piece-sun_piece.ensures ∙ ap (piece (rs from)) c.sun_height-height.ensures)
      (piece_most (rs from) (height from))

  abbrev moon : Mirror
  moon =
      gave {v = piece (rm from) rest} c.piece-moon_piece.type_inv
      (c.piece-moon_piece.ensures ∙ ap (λ (n : ℕ). piece (rm from) (rs from + rm from - apart from - n)) c.sun_height-height.ensures)
      (piece_most (rm from) rest)

  abbrev first : Mirror
  first = moon ⊗ moon_radius from

abbrev once : After-floor_div-once → Mirror
once c =
    let f = kept (first c.before) tt in
    let s = from c.before in
    bounded (small_floor_gave f (rs s) c.floor_div-once.type_inv c.floor_div-once.ensures)
    (over_sun f.number (rs s) 36_000_000_000_000_000 1_800_000_000 f.bound s.requires.radii.sun_least tt)

abbrev second : After-floor_div-once → Mirror
second c = once c ⊗ moon_radius (from c.before)

abbrev result : After-floor_div → Mirror
result c =
    let k = c.before.before in
    sun k ⊕ small_floor_gave (kept (second c.before) tt) (rs (from k)) c.floor_div.type_inv c.floor_div.ensures

pub piece-sun_piece-requires : goal.piece-sun_piece-requires
piece-sun_piece-requires c =
    (c.requires.radii.sun_most, omega (arith, c.sun_height-height.ensures, height_within c.requires, c.requires.moon_out))

pub overflow_sub-sun-2 : goal.overflow_sub-sun-2
overflow_sub-sun-2 c = omega (arith, c.sun_height-height.ensures, height_within c.requires)

pub overflow_mul-moon_piece : goal.overflow_mul-moon_piece
overflow_mul-moon_piece c = fits (first (goal.at.overflow_mul-moon_piece c).After-piece-moon_piece) tt

pub overflow_mul-once : goal.overflow_mul-once
overflow_mul-once c = fits (second (goal.at.overflow_mul-once c).After-floor_div-once) tt

pub overflow_add-result : goal.overflow_add-result
overflow_add-result c = fits (result (goal.at.overflow_add-result c).After-floor_div) tt

pub returns : goal.returns
unfolding lens
returns c = (kept (result (goal.at.returns c).After-floor_div) tt).same
