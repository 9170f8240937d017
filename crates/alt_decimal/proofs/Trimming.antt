-- The digits of a number text from the first to the last that is not 0.
use Rattle.std.proofs.Common.{◌≡◌, ◌≢◌, ℕ, ◌+◌, ◌-◌, ◌^◌, ◌<◌, List, [], ◌∷◌, ◌++◌, length, get_or, refl, ap, ◌∙◌, arith, replicate, length-append, append_assoc}
use Rattle.std.proofs.lemmas.List.{append-nil, replicate-append-replicate, get_or-append-add}
use Rattle.alt_base.proofs.Lists.{length-zero}
use Rattle.alt_decimal.specs.Coefficient.{Trims}

-- so many zeros
abbrev pub zeros : ℕ → List ℕ
zeros k = replicate k 48

-- the first digit isn't 0
abbrev pub First : List ℕ → Type 0
First ds = 0 < length ds → get_or ds 0 0 ≢ 48

-- nor is the last
abbrev pub Last : List ℕ → Type 0
Last ds = 0 < length ds → get_or ds (length ds - 1) 0 ≢ 48

First-front : (v ys : List ℕ) → First (v ++ ys) → First v
First-front [] ys h = λ some. absurd (omega arith)
First-front (d ∷ v) ys h = λ some. h (omega arith)

First-append : (w ys : List ℕ) → 0 < length w → First w → First (w ++ ys)
First-append [] ys some h = absurd (omega arith)
First-append (d ∷ w) ys some h = λ _. h some

-- the last of two lists is that of the second
at_end : (xs ys : List ℕ) → 0 < length ys → get_or (xs ++ ys) (length (xs ++ ys) - 1) 0
    ≡ get_or ys (length ys - 1) 0
at_end xs ys some =
    let e : length (xs ++ ys) - 1 ≡ length xs + (length ys - 1) =
    omega (arith, length-append xs ys) in
    rw e (get_or-append-add xs ys (length ys - 1) 0)

Last-append : (xs ys : List ℕ) → 0 < length ys → Last ys → Last (xs ++ ys)
Last-append xs ys some h = λ _. rw (at_end xs ys some) (h some)

Last-back : (xs ys : List ℕ) → Last (xs ++ ys) → Last ys
Last-back xs ys h = λ some. rw (← at_end xs ys some) (h (omega (arith, length-append xs ys)))

-- the fraction has zeros alone
pub trims_whole : (whole fraction w v f : List ℕ) (j k cut : ℕ) → whole ≡ zeros j ++ w
    → w ≡ v ++ zeros k → fraction ≡ f ++ zeros cut
    → length f ≡ 0 → First w → Last v → cut + k < 2 ^ 65 → Trims whole fraction v f (cut + k)
trims_whole whole fraction w v f j k cut e_whole e_w e_fraction none first last room =
    let f_is : f ≡ [] = length-zero f none in
    let v_is : v ++ f ≡ v = rw f_is (append-nil v) in
    let behind : zeros k ++ zeros cut ≡ zeros (cut + k) =
    replicate-append-replicate k cut 48 ∙ ap zeros (omega arith) in
    let all : whole ++ fraction ≡ zeros j ++ (v ++ f) ++ zeros (cut + k) =
    rw (e_whole, e_w, e_fraction, f_is, ← behind) (simp (append_assoc, append-nil)) in
    record {
      digits = (j, all);
      first = rw v_is (First-front v (zeros k) (rw (← e_w) first));
      last = rw v_is last;
      room = room;
    }

-- the whole digits are zeros alone
pub trims_fraction : (whole fraction w f g : List ℕ) (j i cut : ℕ) → whole ≡ zeros j ++ w
    → fraction ≡ f ++ zeros cut → f ≡ zeros i ++ g
    → length w ≡ 0 → First g → Last f → cut < 2 ^ 65 → Trims whole fraction w g cut
trims_fraction whole fraction w f g j i cut e_whole e_fraction e_f none first last room =
    let w_is : w ≡ [] = length-zero w none in
    let g_is : w ++ g ≡ g = rw w_is refl in
    let before : zeros j ++ zeros i ≡ zeros (j + i) = replicate-append-replicate j i 48 in
    let all : whole ++ fraction ≡ zeros (j + i) ++ (w ++ g) ++ zeros cut =
    rw (e_whole, e_fraction, e_f, w_is, ← before) (simp (append_assoc, append-nil)) in
    record {
      digits = (j + i, all);
      first = rw g_is first;
      last = rw g_is (Last-back (zeros i) g (rw (← e_f) last));
      room = room;
    }

-- both have other digits
pub trims_both : (whole fraction w f : List ℕ) (j cut : ℕ) → whole ≡ zeros j ++ w
    → fraction ≡ f ++ zeros cut
    → 0 < length w → 0 < length f → First w → Last f → cut < 2 ^ 65 → Trims whole fraction w f cut
trims_both whole fraction w f j cut e_whole e_fraction some_w some_f first last room = record {
  digits = (j, rw (e_whole, e_fraction) (simp append_assoc));
  first = First-append w f some_w first;
  last = Last-append w f some_f last;
  room = room;
}
