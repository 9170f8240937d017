-- What a loop that passes over some elements has put at the end.
use Rattle.std.proofs.Common.{◌≡◌, ℕ, ◌+◌, ◌<◌, Bool, true, false, cond, List, [], ◌∷◌, ◌++◌, map, length, get_or, take, sym, ap, ◌∙◌, append_assoc}
use Rattle.std.specs.List.{filter}
use Rattle.std.proofs.lemmas.List.{map-append, append-nil}
use Rattle.std.proofs.lemmas.List.Elements.{filter_more}

module _ {A B : Type 0} (p : A → Bool) (g : A → B) (xs : List A) (n : ℕ) (e : A)
    (start out : List B) where
  -- one more element, by its test
  more : n < length xs → e ≡ get_or xs n e
      → start ++ map g (filter p (take (n + 1) xs))
      ≡ (start ++ map g (filter p (take n xs))) ++ map g (cond (p e) (e ∷ []) [])
  more within at =
      ap (λ l. start ++ map g l)
      (filter_more p xs n e within
      ∙ ap (λ x. filter p (take n xs) ++ cond (p x) (x ∷ []) []) (sym at))
      ∙ ap (λ l. start ++ l) (map-append g (filter p (take n xs)) (cond (p e) (e ∷ []) []))
      ∙ sym (append_assoc start (map g (filter p (take n xs))) (map g (cond (p e) (e ∷ []) [])))

  -- an element that passes is put at the end
  pub kept : n < length xs → e ≡ get_or xs n e → p e ≡ true
      → out ≡ start ++ map g (filter p (take n xs))
      → out ++ g e ∷ [] ≡ start ++ map g (filter p (take (n + 1) xs))
  kept within at passes so_far =
      ap (λ l. l ++ g e ∷ []) so_far
      ∙ ap (λ b. (start ++ map g (filter p (take n xs))) ++ map g (cond b (e ∷ []) [])) (sym passes)
      ∙ sym (more within at)

  -- another is left out
  pub left_out : n < length xs → e ≡ get_or xs n e → p e ≡ false
      → out ≡ start ++ map g (filter p (take n xs))
      → out ≡ start ++ map g (filter p (take (n + 1) xs))
  left_out within at fails so_far =
      so_far ∙ sym (append-nil (start ++ map g (filter p (take n xs))))
      ∙ ap (λ b. (start ++ map g (filter p (take n xs))) ++ map g (cond b (e ∷ []) [])) (sym fails)
      ∙ sym (more within at)
