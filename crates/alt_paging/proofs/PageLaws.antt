-- How the page of a list grows with the list: up to its end every item is examined, and from then on none.
use Rattle.std.proofs.Common.{◌≡◌, ◌⊎◌, inl, inr, refl, sym, ap, ◌∙◌, cond, ℕ, ◌+◌, ◌*◌, ◌<◌, ◌≤◌, Bool, true, false, ◌||◌, List, [], ◌∷◌, ◌++◌, length, map, Option, Some, None, is_some, IfSome, unwrap_or, nat_le, sum_by, All, arith, append_assoc, append-nil, length-append}
use Rattle.std.specs.List.{find}
use Rattle.std.specs.Option.{option_or}
use Rattle.std.proofs.lemmas.List.Elements.{All-head, All-tail}
use Rattle.std.proofs.lemmas.List.Folds.{find-append}
use Rattle.std.proofs.lemmas.List.Sums.{sum_by-cons, sum_by_push}
use Rattle.alt_expr.specs.Pages.{Asked, Page, page_bytes, reaches_limit, fills, prefixes, full_prefix, examined, ends_early, parts, passed, page_of}
use Rattle.alt_expr.proofs.Prefixes.{beyond, beyond_one, prefixes-append}
use Rattle.alt_value.specs.Size.{item_size}
use Rattle.alt_value.specs.Tree.{Pair}

-- ---- where a page ends

module _ (limit : Option ℕ) where
  -- nothing is found where nothing is there
  not_there : (o : Option (List (List Pair))) → is_some o ≡ false → o ≡ None
  not_there None e = refl
  not_there (Some x) e = absurd (let f : ⊥ = cc in f)

  -- a prefix that fills a page is the shortest of a longer list too
  full_prefix-append : (xs ys : List (List Pair)) → full_prefix limit (xs ++ ys)
      ≡ option_or (full_prefix limit xs) (find (fills limit) (beyond xs ys))
  full_prefix-append xs ys = ap (find (fills limit)) (prefixes-append xs ys)
      ∙ find-append (fills limit) (prefixes xs) (beyond xs ys)

  -- once it has ended it stays so
  stays : (o p : Option (List (List Pair))) → is_some o ≡ true → option_or o p ≡ o
  stays None p e = absurd (let f : ⊥ = cc in f)
  stays (Some x) p e = refl

  -- behind the end of a full page nothing changes it
  pub full_prefix-ended : (xs ys : List (List Pair)) → ends_early limit xs ≡ true
      → full_prefix limit (xs ++ ys) ≡ full_prefix limit xs
  full_prefix-ended xs ys e = full_prefix-append xs ys ∙ stays (full_prefix limit xs) _ e

  -- until then one more item ends it exactly where all of them fill it
  one_more : (xs : List (List Pair)) (y : List Pair) → ends_early limit xs ≡ false
      → full_prefix limit (xs ++ y ∷ [])
      ≡ cond (fills limit (xs ++ y ∷ [])) (Some (xs ++ y ∷ [])) None
  one_more xs y e = full_prefix-append xs (y ∷ [])
      ∙ ap (λ o. option_or o (find (fills limit) (beyond xs (y ∷ []))))
      (not_there (full_prefix limit xs) e)
      ∙ ap (find (fills limit)) (beyond_one xs y)

  is_some_cond : (b : Bool) (x : List (List Pair)) → is_some (cond b (Some x) None) ≡ b
  is_some_cond true x = refl
  is_some_cond false x = refl

  unwrap_cond : (b : Bool) (x : List (List Pair)) → unwrap_or (cond b (Some x) None) x ≡ x
  unwrap_cond true x = refl
  unwrap_cond false x = refl

  -- a page that isn't full ends with one item more exactly where that fills it
  pub ends_early_push : (xs : List (List Pair)) (y : List Pair) → ends_early limit xs ≡ false
      → ends_early limit (xs ++ y ∷ []) ≡ fills limit (xs ++ y ∷ [])
  ends_early_push xs y e = ap is_some (one_more xs y e)
      ∙ is_some_cond (fills limit (xs ++ y ∷ [])) (xs ++ y ∷ [])

  -- and all are examined
  pub examined_push : (xs : List (List Pair)) (y : List Pair) → ends_early limit xs ≡ false
      → examined limit (xs ++ y ∷ []) ≡ xs ++ y ∷ []
  examined_push xs y e = ap (λ o. unwrap_or o (xs ++ y ∷ [])) (one_more xs y e)
      ∙ unwrap_cond (fills limit (xs ++ y ∷ [])) (xs ++ y ∷ [])

  -- before its end a page examines every item
  pub examined_open : (xs : List (List Pair)) → ends_early limit xs ≡ false
      → examined limit xs ≡ xs
  examined_open xs e = ap (λ o. unwrap_or o xs) (not_there (full_prefix limit xs) e)

  -- where an option has a value, what stands in its place doesn't matter
  same_some : (o : Option (List (List Pair))) (x y : List (List Pair)) → is_some o ≡ true
      → unwrap_or o x ≡ unwrap_or o y
  same_some None x y e = absurd (let f : ⊥ = cc in f)
  same_some (Some z) x y e = refl

  -- behind its end a page examines no more
  pub examined-ended : (xs ys : List (List Pair)) → ends_early limit xs ≡ true
      → examined limit (xs ++ ys) ≡ examined limit xs
  examined-ended xs ys e = ap (λ o. unwrap_or o (xs ++ ys)) (full_prefix-ended xs ys e)
      ∙ same_some (full_prefix limit xs) (xs ++ ys) xs e

-- the page whose items were examined
page_with : Asked → List (List Pair) → Bool → Page
page_with ask seen ended = record {
  items = map (parts ask.paths) (passed ask seen);
  count = length (passed ask seen);
  scanned = length seen;
  ended = ended;
}

-- a page that ended is that of every longer list
pub page_of-ended : (ask : Asked) (xs ys : List (List Pair)) → ends_early ask.limit xs ≡ true
    → page_of ask (xs ++ ys) ≡ page_of ask xs
unfolding page_with
page_of-ended ask xs ys e = λ i. page_with ask (examined-ended ask.limit xs ys e i)
    (ap is_some (full_prefix-ended ask.limit xs ys e) i)

-- ---- how many items are certain to be examined

module _ (limit : Option ℕ) (largest : ℕ) where
  -- so many more items don't reach the limit, if there is one
  abbrev pub Within : ℕ → Type 0
  Within n = IfSome limit (λ most. n < most)

  -- what is above a number isn't up to it
  not_le : (m n : ℕ) → n < m → nat_le m n ≡ false
  not_le m n h = grind arith

  not_reached : (xs : List (List Pair)) → Within (length xs) → reaches_limit limit xs ≡ false
  not_reached xs = by limit
    where
      by : (o : Option ℕ) → IfSome o (λ most. length xs < most) → reaches_limit o xs ≡ false
      by None h = refl
      by (Some most) h = not_le most (length xs) h

  not_full : (xs : List (List Pair)) → Within (length xs) → sum_by item_size xs < page_bytes
      → fills limit xs ≡ false
  not_full xs few small = by (reaches_limit limit xs) (nat_le page_bytes (sum_by item_size xs))
      (not_reached xs few) (not_le page_bytes (sum_by item_size xs) small)
    where
      by : (a b : Bool) → a ≡ false → b ≡ false → (a || b) ≡ false
      by true b e f = e
      by false b e f = f

  fewer : (m n : ℕ) → m ≤ n → Within n → Within m
  fewer m n le = by limit
    where
      by : (o : Option ℕ) → IfSome o (λ most. n < most) → IfSome o (λ most. m < most)
      by None h = tt
      by (Some most) h = omega arith

  -- So many more items, none larger than that, don't end a page that goes on.
  pub ends_early-more : (xs more : List (List Pair)) → ends_early limit xs ≡ false
      → All (λ i. item_size i ≤ largest) more → Within (length xs + length more)
      → sum_by item_size xs + largest * length more < page_bytes
      → ends_early limit (xs ++ more) ≡ false
  ends_early-more xs [] e small few room = ap (ends_early limit) (append-nil xs) ∙ e
  ends_early-more xs (y ∷ more) e small few room =
      let size = All-head (λ i. item_size i ≤ largest) y more small in
      let total = sum_by_push item_size xs y in
      let count = length-append xs (y ∷ []) in
      let grown : largest * length (y ∷ more) ≡ largest + largest * length more = omega arith in
      let on = ends_early_push limit xs y e ∙ not_full (xs ++ y ∷ [])
      (fewer (length (xs ++ y ∷ [])) (length xs + length (y ∷ more)) (omega (arith, count)) few)
      (omega (arith, total, size, grown, room)) in
      ap (ends_early limit) (sym (append_assoc xs (y ∷ []) more))
      ∙ ends_early-more (xs ++ y ∷ []) more on
      (All-tail (λ i. item_size i ≤ largest) y more small)
      (fewer (length (xs ++ y ∷ []) + length more) (length xs + length (y ∷ more))
      (omega (arith, count)) few)
      (omega (arith, total, size, grown, room))

-- ---- how many end a page

module _ (limit : Option ℕ) where
  -- A page that goes on ends with a list that fills it, wherever in that it ends.
  fills-ends : (more : List (List Pair)) (xs : List (List Pair)) (y : List Pair) (b : Bool)
      → ends_early limit xs ≡ false → fills limit (xs ++ y ∷ []) ≡ b
      → fills limit (xs ++ y ∷ more) ≡ true → ends_early limit (xs ++ y ∷ more) ≡ true
  fills-ends more xs y true on e full =
      ap (ends_early limit) (sym (append_assoc xs (y ∷ []) more))
      ∙ ap is_some (full_prefix-ended limit (xs ++ y ∷ []) more
      (ends_early_push limit xs y on ∙ e))
      ∙ ends_early_push limit xs y on ∙ e
  fills-ends [] xs y false on e full = absurd (let f : ⊥ = cc in f)
  fills-ends (z ∷ more) xs y false on e full =
      ap (ends_early limit) (sym (append_assoc xs (y ∷ []) (z ∷ more)))
      ∙ fills-ends more (xs ++ y ∷ []) z (fills limit ((xs ++ y ∷ []) ++ z ∷ []))
      (ends_early_push limit xs y on ∙ e) refl
      (ap (fills limit) (append_assoc xs (y ∷ []) (z ∷ more)) ∙ full)

  -- a list that has as many items as the limit, or as many bytes as a page, fills it
  fills_by : (xs : List (List Pair)) → (reaches_limit limit xs ≡ true) ⊎ (page_bytes ≤ sum_by item_size xs)
      → fills limit xs ≡ true
  fills_by xs (inl e) = ap (λ b. b || nat_le page_bytes (sum_by item_size xs)) e
  fills_by xs (inr le) = by (reaches_limit limit xs) (nat_le page_bytes (sum_by item_size xs)) (grind arith)
    where
      by : (a b : Bool) → b ≡ true → (a || b) ≡ true
      by true b e = refl
      by false b e = e

  -- One item or more that with those before them reach the limit or fill a page's bytes end one that goes on.
  pub ends_early-full : (xs more : List (List Pair)) → ends_early limit xs ≡ false
      → 0 < length more
      → (reaches_limit limit (xs ++ more) ≡ true) ⊎ (page_bytes ≤ sum_by item_size (xs ++ more))
      → ends_early limit (xs ++ more) ≡ true
  ends_early-full xs [] on some full = absurd (omega (arith, some))
  ends_early-full xs (y ∷ more) on some full =
      fills-ends more xs y (fills limit (xs ++ y ∷ [])) on refl (fills_by (xs ++ y ∷ more) full)

-- so many items, none smaller than that, have so many times its bytes or more
pub sum_by-large : (largest : ℕ) (more : List (List Pair)) → All (λ i. largest ≤ item_size i) more
    → largest * length more ≤ sum_by item_size more
sum_by-large largest [] large = omega arith
sum_by-large largest (y ∷ more) large =
    let size = All-head (λ i. largest ≤ item_size i) y more large in
    let rest = sum_by-large largest more (All-tail (λ i. largest ≤ item_size i) y more large) in
    let grown : largest * length (y ∷ more) ≡ largest + largest * length more = omega arith in
    let total = sum_by-cons item_size y more in
    omega (arith, size, rest, grown, total)

-- a list of that length reaches the limit
pub reaches-length : (most : ℕ) (xs : List (List Pair)) → most ≡ length xs
    → reaches_limit (Some most) xs ≡ true
reaches-length most xs e = grind arith
