-- A place with zeros behind the bytes in use.
use Rattle.std.proofs.Common.{◌∙◌, ap, arith, sym, ℕ, ◌+◌, ◌-◌, ◌<◌, List, drop, replicate, set}
use Rattle.std.proofs.lemmas.List.{drop-drop, drop-replicate, drop-set-lt, length-set}
use Rattle.text.specs.Buffer.{Padded}

-- one byte more in use, in the place of the first zero
pub padded_after : (room used : ℕ) (bytes : List ℕ) (byte : ℕ) → Padded room used bytes → used < room → Padded room (used + 1) (set bytes used byte)
padded_after room used bytes byte padded h = record {
  whole = length-set bytes used byte ∙ padded.whole;
  within = omega (arith, h, padded.whole, length-set bytes used byte);
  zeros =
      drop-set-lt (used + 1) bytes used byte (omega arith)
      ∙ sym (drop-drop 1 used bytes)
      ∙ ap (λ (behind : List ℕ). drop 1 behind) padded.zeros
      ∙ drop-replicate 1 (room - used) 0
      ∙ ap (λ (n : ℕ). replicate n 0) (omega arith);
}
