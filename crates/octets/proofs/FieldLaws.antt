-- Numbers one after the other, each in its width: each way and back, and how a loop reads and stores them.
use mathlib.Core.Bool.{◌&&◌, false, true}
use mathlib.Core.List.{List, [], ◌++◌, ◌∷◌, append_assoc, append-nil}
use mathlib.Core.Path.{◌∙◌, ◌≡◌, ap, ap₂, refl, subst, sym}
use Prim.Native.Nat.{◌*◌, ◌+◌, ◌<◌, ◌^◌, ◌≤◌, suc, zero, ℕ}
use native.Mathlib.Nat.{mul-zero, not-suc-le-zero}
use native.Mathlib.Numerals.{add-one}
use native.Mathlib.Omega.{arith}
use lib.Dec.{T, leb, ltb}
use lib.ListN.{drop, get_or, length, length-append, length-drop, replicate, take, take-append-drop}
use lib.Seq.{drop-append-le, drop_at, drop-drop, length-take-le, take-append-le, take_at}
use borrow.Author.Tests.{leb-true, lt-ltb, ltb-true}
use Rattle.text.specs.Line.{all}
use Rattle.text.proofs.LineLaws.{first_of, second_of}
use Rattle.text.proofs.WordLaws.{all_append}
use Rattle.octets.specs.Octets.{are_narrow, big_endian, is_octet, joined, number, parted, total, widest}
use Rattle.octets.specs.Again.{JoinedAgain, PartedAgain, fit}
use Rattle.octets.specs.Put.{Put}
use Rattle.octets.proofs.NumberLaws.{again, big_endian_length, number_again, number_small}
use Rattle.octets.proofs.PutLaws.{put_length, put_twice}

pub off : false ≡ true → ⊥
off q = subst T (sym q) tt

-- ---- each way and back

pub parted_again : PartedAgain
unfolding fit parted joined
parted_again [] [] e = refl
parted_again [] (n ∷ numbers) e = absurd (off e)
parted_again (width ∷ widths) [] e = absurd (off e)
parted_again (width ∷ widths) (n ∷ numbers) e =
    ap₂ ◌∷◌
    (ap number (take_at (big_endian width n) (joined widths numbers) width (big_endian_length width n))
    ∙ number_again width n (ltb-true n (256 ^ width) (first_of (ltb n (256 ^ width)) (fit widths numbers) e)))
    (ap (parted widths) (drop_at (big_endian width n) (joined widths numbers) width (big_endian_length width n))
    ∙ parted_again widths numbers (second_of (ltb n (256 ^ width)) (fit widths numbers) e))

-- the first octets, and the others
module _ (width : ℕ) (s : List ℕ) (e : all is_octet s ≡ true) where
  halves : (all is_octet (take width s) && all is_octet (drop width s)) ≡ true
  halves = sym (all_append is_octet (take width s) (drop width s)) ∙ ap (all is_octet) (take-append-drop width s) ∙ e

  pub taken_octets : all is_octet (take width s) ≡ true
  taken_octets = first_of (all is_octet (take width s)) (all is_octet (drop width s)) halves

  pub left_octets : all is_octet (drop width s) ≡ true
  left_octets = second_of (all is_octet (take width s)) (all is_octet (drop width s)) halves

pub joined_again : JoinedAgain
unfolding parted joined total
joined_again [] [] l e = refl
joined_again [] (octet ∷ rest) l e = absurd (omega (arith, l))
joined_again (width ∷ widths) s l e =
    ap₂ ◌++◌
    (again width (take width s) (length-take-le width s (omega (arith, l))) (taken_octets width s e))
    (joined_again widths (drop width s) (length-drop width s ∙ omega (arith, l)) (left_octets width s e))
    ∙ take-append-drop width s

-- ---- lengths, and numbers that fit

pub joined_length : (widths numbers : List ℕ) → length numbers ≡ length widths → length (joined widths numbers) ≡ total widths
unfolding joined total
joined_length [] numbers l = refl
joined_length (width ∷ widths) [] l = absurd (omega (arith, l))
joined_length (width ∷ widths) (n ∷ numbers) l =
    length-append (big_endian width n) (joined widths numbers) ∙ ap₂ ◌+◌ (big_endian_length width n) (joined_length widths numbers (omega (arith, l)))

pub parted_length : (widths octets : List ℕ) → length (parted widths octets) ≡ length widths
unfolding parted
parted_length [] octets = refl
parted_length (width ∷ rest) octets = ap suc (parted_length rest (drop width octets))

-- what stands behind the fields does not matter
pub parted_append : (widths a b : List ℕ) → total widths ≤ length a → parted widths (a ++ b) ≡ parted widths a
unfolding parted total
parted_append [] a b h = refl
parted_append (width ∷ widths) a b h =
    ap₂ ◌∷◌
    (ap number (take-append-le width a b (omega arith)))
    (ap (parted widths) (drop-append-le width a b (omega arith)) ∙ parted_append widths (drop width a) b (simp length-drop (omega arith)))

pub parted_fit : (widths s : List ℕ) → length s ≡ total widths → all is_octet s ≡ true → fit widths (parted widths s) ≡ true
unfolding parted fit total
parted_fit [] s l e = refl
parted_fit (width ∷ widths) s l e =
    ap₂ ◌&&◌
    (lt-ltb (number (take width s)) (256 ^ width) (number_small width (take width s) (length-take-le width s (omega (arith, l))) (taken_octets width s e)))
    (parted_fit widths (drop width s) (length-drop width s ∙ omega (arith, l)) (left_octets width s e))

pub fit_at : (widths numbers : List ℕ) → fit widths numbers ≡ true → (i : ℕ) → i < length widths → get_or numbers i 0 < 256 ^ get_or widths i 0
unfolding fit
fit_at [] numbers e i h = absurd (not-suc-le-zero h)
fit_at (width ∷ widths) [] e i h = absurd (off e)
fit_at (width ∷ widths) (n ∷ numbers) e zero h = ltb-true n (256 ^ width) (first_of (ltb n (256 ^ width)) (fit widths numbers) e)
fit_at (width ∷ widths) (n ∷ numbers) e (suc i) h = fit_at widths numbers (second_of (ltb n (256 ^ width)) (fit widths numbers) e) i (omega arith)

pub total_alike : (count width : ℕ) → total (replicate count width) ≡ width * count
unfolding total
total_alike zero width = omega arith
total_alike (suc count) width = omega (arith, total_alike count width)

pub narrow_at : (widths : List ℕ) → are_narrow widths ≡ true → (i : ℕ) → get_or widths i 0 ≤ widest
unfolding are_narrow all
narrow_at [] e i = omega arith
narrow_at (width ∷ widths) e zero = leb-true width widest (first_of (leb width widest) (are_narrow widths) e)
narrow_at (width ∷ widths) e (suc i) = narrow_at widths (second_of (leb width widest) (are_narrow widths) e) i

-- the fields so far, and one more
pub total_next : (widths : List ℕ) (i : ℕ) → i < length widths → total (take i widths) + get_or widths i 0 ≡ total (take (suc i) widths)
unfolding total
total_next [] i h = absurd (not-suc-le-zero h)
total_next (width ∷ widths) zero h = omega arith
total_next (width ∷ widths) (suc i) h = omega (arith, total_next widths i (omega arith))

pub total_most : (widths : List ℕ) (i : ℕ) → total (take i widths) ≤ total widths
unfolding total
total_most widths zero = omega arith
total_most [] (suc i) = omega arith
total_most (width ∷ widths) (suc i) = omega (arith, total_most widths i)

-- ---- a loop that stores

joined_next : (widths numbers : List ℕ) (i : ℕ) → i < length widths → i < length numbers
    → joined (take i widths) (take i numbers) ++ big_endian (get_or widths i 0) (get_or numbers i 0) ≡ joined (take (suc i) widths) (take (suc i) numbers)
unfolding joined
joined_next [] numbers i h l = absurd (not-suc-le-zero h)
joined_next (width ∷ widths) [] i h l = absurd (not-suc-le-zero l)
joined_next (width ∷ widths) (n ∷ numbers) zero h l = sym (append-nil (big_endian width n))
joined_next (width ∷ widths) (n ∷ numbers) (suc i) h l =
    append_assoc (big_endian width n) (joined (take i widths) (take i numbers)) (big_endian (get_or widths i 0) (get_or numbers i 0))
    ∙ ap (λ (s : List ℕ). big_endian width n ++ s) (joined_next widths numbers i (omega arith) (omega arith))

module _ (widths numbers : List ℕ) (i : ℕ) (h : i < length widths) (l : length numbers ≡ length widths) (width : ℕ) (is : get_or widths i 0 ≡ width)
    {before middle : List ℕ} {at next : ℕ} (p : Put before at (joined (take i widths) (take i numbers)) middle next) where
  -- the field has room
  pub field_room : at + total widths ≤ length before → next + width ≤ length middle
  field_room room =
      let taken = length-take-le i widths (omega arith) in
      let stored = joined_length (take i widths) (take i numbers) (length-take-le i numbers (omega arith) ∙ sym taken) in
      omega (arith, is, p.behind, stored, total_next widths i h, total_most widths (suc i), put_length p)

  pub put_field : {after : List ℕ} {last : ℕ} → Put middle next (big_endian width (get_or numbers i 0)) after last
      → Put before at (joined (take (i + 1) widths) (take (i + 1) numbers)) after last
  put_field {after} {last} q =
      subst (λ (s : List ℕ). Put before at s after last)
      (ap (λ (w : ℕ). joined (take i widths) (take i numbers) ++ big_endian w (get_or numbers i 0)) (sym is)
      ∙ joined_next widths numbers i h (omega arith)
      ∙ ap (λ (n : ℕ). joined (take n widths) (take n numbers)) (sym (add-one i)))
      (put_twice p q)

-- ---- a loop that reads

pub parted_next : (widths octets : List ℕ) (i : ℕ) → i < length widths
    → parted (take i widths) octets ++ (number (take (get_or widths i 0) (drop (total (take i widths)) octets)) ∷ []) ≡ parted (take (suc i) widths) octets
unfolding parted total
parted_next [] octets i h = absurd (not-suc-le-zero h)
parted_next (width ∷ widths) octets zero h = refl
parted_next (width ∷ widths) octets (suc i) h =
    ap (λ (t : List ℕ). number (take width octets) ∷ (parted (take i widths) (drop width octets) ++ (number (take (get_or widths i 0) t) ∷ [])))
    (sym (drop-drop (total (take i widths)) width octets))
    ∙ ap (λ (t : List ℕ). number (take width octets) ∷ t) (parted_next widths (drop width octets) i (omega arith))

-- number i of many in one width
pub parted_alike : (count width i : ℕ) (octets : List ℕ) → i < count → get_or (parted (replicate count width) octets) i 0 ≡ number (take width (drop (width * i) octets))
unfolding parted
parted_alike zero width i octets h = absurd (not-suc-le-zero h)
parted_alike (suc count) width zero octets h = ap (λ (n : ℕ). number (take width (drop n octets))) (sym (mul-zero width))
parted_alike (suc count) width (suc i) octets h =
    parted_alike count width i (drop width octets) (omega arith)
    ∙ ap (λ (t : List ℕ). number (take width t)) (drop-drop (width * i) width octets ∙ ap (λ (n : ℕ). drop n octets) (next width i))
  where
    next : (w i : ℕ) → w + w * i ≡ w * suc i
    next w i = omega arith
