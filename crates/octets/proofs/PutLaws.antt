-- Stores one after the other, and one before the others.
use mathlib.Core.List.{List, [], ◌++◌, ◌∷◌}
use mathlib.Core.Path.{◌∙◌, ◌≡◌, ap, refl, sym}
use Prim.Native.Nat.{◌+◌, ◌<◌, ◌≤◌, suc, ℕ}
use native.Mathlib.Nat.{add-suc, add-zero, suc-add, zero-add}
use native.Mathlib.Omega.{arith}
use lib.ListN.{drop, length, length-append, set}
use lib.Seq.{length-sets, set_comm, sets, sets-eq}
use Rattle.octets.specs.Put.{Put}

sets_append : (added more octets : List ℕ) (at : ℕ) → sets octets at (added ++ more) ≡ sets (sets octets at added) (at + length added) more
sets_append [] more octets at = ap (λ (n : ℕ). sets octets n more) (sym (add-zero at))
sets_append (octet ∷ rest) more octets at =
    sets_append rest more (set octets at octet) (suc at)
    ∙ ap (λ (n : ℕ). sets (sets (set octets at octet) (suc at) rest) n more) (suc-add at (length rest) ∙ sym (add-suc at (length rest)))

-- a store before a run of stores
pub set_before : (added octets : List ℕ) (at later octet : ℕ) → at < later → set (sets octets later added) at octet ≡ sets (set octets at octet) later added
set_before [] octets at later octet h = refl
set_before (first ∷ rest) octets at later octet h =
    set_before rest (set octets later first) at (suc later) octet (omega arith)
    ∙ ap (λ (s : List ℕ). sets s (suc later) rest) (set_comm octets later at first octet (λ same. omega (arith, same)))

pub put_none : (octets : List ℕ) (at : ℕ) → Put octets at [] octets at
put_none octets at = record { stored = refl; behind = sym (add-zero at) }

module _ {before middle after added more : List ℕ} {at next last : ℕ} where
  pub put_twice : Put before at added middle next → Put middle next more after last → Put before at (added ++ more) after last
  put_twice a b =
      record {
        stored = b.stored ∙ ap (λ (n : ℕ). sets middle n more) a.behind ∙ ap (λ (s : List ℕ). sets s (at + length added) more) a.stored ∙ sym (sets_append added more before at);
        behind = omega (arith, a.behind, b.behind, length-append added more);
      }

module _ {before after added : List ℕ} {at next : ℕ} (p : Put before at added after next) where
  -- the buffer is as long as before
  pub put_length : length after ≡ length before
  put_length = ap length p.stored ∙ length-sets before at added

  -- from the start, in a buffer that is long enough: the octets, and the rest as it was
  pub put_whole : at ≡ 0 → length added ≤ length before → after ≡ added ++ drop (length added) before
  put_whole z h =
      p.stored ∙ ap (λ (n : ℕ). sets before n added) z ∙ sets-eq added before 0 (omega arith) ∙ ap (λ (n : ℕ). added ++ drop n before) (zero-add (length added))
