-- The page of a list: of one that no prefix fills it is the list, and once it has ended it is the page of every longer list.
use Rattle.std.proofs.Common.{◌≡◌, refl, ap, ◌∙◌, cond, Bool, true, false, List, [], ◌∷◌, ◌++◌, Option, Some, None, unwrap_or}
use Rattle.std.specs.List.{find}
use Rattle.std.specs.Option.{option_or}
use Rattle.std.proofs.lemmas.List.Folds.{find-append}
use Rattle.alt_expr.specs.Pages.{prefixes}
use Rattle.alt_expr.proofs.Prefixes.{beyond, beyond_one, prefixes-append}

-- ---- the first that fills a page

module _ {A : Type 0} (fills : List A → Bool) where
  -- the shortest prefix that fills a page, if one does
  abbrev pub first_full : List A → Option (List A)
  first_full xs = find fills (prefixes xs)

  -- no shorter prefix of the list fills a page
  abbrev pub IsFirst : List A → Type 0
  IsFirst xs = first_full xs ≡ cond (fills xs) (Some xs) None

  -- what fills a page fills one of a longer list too
  first_full-append : (xs ys : List A)
      → first_full (xs ++ ys) ≡ option_or (first_full xs) (find fills (beyond xs ys))
  first_full-append xs ys = ap (find fills) (prefixes-append xs ys)
      ∙ find-append fills (prefixes xs) (beyond xs ys)

  none_full : (xs : List A) → IsFirst xs → fills xs ≡ false → first_full xs ≡ None
  none_full xs first going = first ∙ ap (λ b. cond b (Some xs) None) going

  some_full : (xs : List A) → IsFirst xs → fills xs ≡ true → first_full xs ≡ Some xs
  some_full xs first full = first ∙ ap (λ b. cond b (Some xs) None) full

  -- one more behind a list that doesn't
  pub first_push : (xs : List A) (y : A) → IsFirst xs → fills xs ≡ false → IsFirst (xs ++ y ∷ [])
  first_push xs y first going = first_full-append xs (y ∷ [])
      ∙ ap (λ o. option_or o (find fills (beyond xs (y ∷ [])))) (none_full xs first going)
      ∙ ap (find fills) (beyond_one xs y)

  -- it is the page of every longer list
  pub page_full : (xs ys : List A) → IsFirst xs → fills xs ≡ true
      → unwrap_or (first_full (xs ++ ys)) (xs ++ ys) ≡ xs
  page_full xs ys first full = ap (λ o. unwrap_or o (xs ++ ys)) (first_full-append xs ys
      ∙ ap (λ o. option_or o (find fills (beyond xs ys))) (some_full xs first full))

  -- and its own where nothing follows
  pub page_whole : (xs : List A) → IsFirst xs → unwrap_or (first_full xs) xs ≡ xs
  page_whole xs first = ap (λ o. unwrap_or o xs) first ∙ by (fills xs)
    where
      by : (b : Bool) → unwrap_or (cond b (Some xs) None) xs ≡ xs
      by true = refl
      by false = refl
