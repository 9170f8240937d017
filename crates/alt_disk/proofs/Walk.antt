-- How the walk over the files in rising order uses up the choice, and what it leaves.
use Rattle.std.proofs.Common.{◌≡◌, ◌≢◌, ◌⊎◌, ◌<◌, ◌≤◌, ◌+◌, ◌==◌, ◌||◌, nat_le, if◌then◌else◌, cond, inl, inr, ⊎_elim, ℕ, zero, suc, Bool, true, false, List, [], ◌∷◌, length, get_or, Option, refl, sym, ◌∙◌, ap, subst, arith}
use Rattle.std.proofs.lemmas.Bool.{cases_eq, false≢true}
use Rattle.std.proofs.lemmas.Bool.Decides.{nat_tests}
use Rattle.std.proofs.lemmas.List.Elements.{recursion_from_All}
use Rattle.std.proofs.lemmas.Map.Keys.{below_from_sorted}
use Rattle.std.proofs.Math.Bool.{or-true}
use Rattle.std.specs.List.{All, AllByRecursion, list_any, filter}
use Rattle.std.specs.List.Sorted.{IsStrictlySortedBy}
use Rattle.std.specs.Ordering.{nat_cmp}
use Rattle.alt_disk.specs.Memory.{Track, nothing, after_call, replay, at_moment}
use Rattle.alt_disk.specs.Stopped.{picked, behind_picked, choice_at, picked_image, settled}
use Rattle.alt_disk.specs.declared.made.Made.{Made}
use Rattle.alt_disk.proofs.Replay.{call-other, test_same, test_other}

-- a number is in a list at a place, or not at all
pub place_of : (f : ℕ) (ns : List ℕ) → ((k : ℕ) × (k < length ns) × (get_or ns k 0 ≡ f))
    ⊎ (list_any (λ g. f == g) ns ≡ false)
place_of f [] = inr refl
place_of f (n ∷ ns) = ⊎_elim
    (λ (same : f ≡ n). inl (0, omega arith, sym same))
    (λ (other : f ≢ n). ⊎_elim
    (λ (found : (k : ℕ) × (k < length ns) × (get_or ns k 0 ≡ f)). inl
    (suc found.0, omega (arith, found.1), found.2))
    (λ (none : list_any (λ g. f == g) ns ≡ false). inr (not_first other none))
    (place_of f ns))
    (cases_eq f n)
  where
    not_first : f ≢ n → list_any (λ g. f == g) ns ≡ false
        → ((f == n) || list_any (λ g. f == g) ns) ≡ false
    not_first other none = let test : (f == n) ≡ false = grind (arith, nat_tests, other) in
        λ i. test i || none i

-- the first of a list is in it
first_listed : (f n : ℕ) (b : Bool) → n ≡ f → ((f == n) || b) ≡ true
first_listed f n b same = let test : (f == n) ≡ true = grind (arith, nat_tests, same) in
    ap (λ (x : Bool). x || b) test

-- a number at a place is in the list
listed : (f : ℕ) (ns : List ℕ) (k : ℕ) → k < length ns → get_or ns k 0 ≡ f
    → list_any (λ g. f == g) ns ≡ true
listed f [] k less same = absurd (omega (arith, less))
listed f (n ∷ ns) zero less same = first_listed f n (list_any (λ g. f == g) ns) same
listed f (n ∷ ns) (suc k) less same = ap (λ (x : Bool). (f == n) || x)
    (listed f ns k (omega (arith, less)) same) ∙ or-true (f == n)

-- a file that is not in a list is not that of a call in it
other_file : (f : ℕ) (ns : List ℕ) (made : Made) → list_any (λ g. f == g) ns ≡ false
    → list_any (λ g. made.file == g) ns ≡ true → f ≢ made.file
other_file f ns made none there same = false≢true
    (sym none ∙ ap (λ (x : ℕ). list_any (λ g. x == g) ns) same ∙ there)

-- a call of another file leaves it, whether it shows or not
one_other : (f : ℕ) (s : Track) (made : Made) (rest : List Made) (b : Bool)
    → after_call f made s ≡ s → replay f s rest ≡ s → replay f s (cond b (made ∷ rest) rest) ≡ s
one_other f s made rest true stays more = ap (λ (x : Track). replay f x rest) stays ∙ more
one_other f s made rest false stays more = more

-- a file of which no call was made, by the calls of the others
unmade_replay : (f : ℕ) (ns : List ℕ) (p : Made → Bool) (s : Track) (calls : List Made)
    → list_any (λ g. f == g) ns ≡ false
    → AllByRecursion (λ made. list_any (λ g. made.file == g) ns ≡ true) calls
    → replay f s (filter p calls) ≡ s
unmade_replay f ns p s [] none all = refl
unmade_replay f ns p s (made ∷ calls) none all =
    one_other f s made (filter p calls) (p made)
    (call-other f made s (other_file f ns made none all.0))
    (unmade_replay f ns p s calls none all.1)

-- never was
pub unmade : (f t : ℕ) (ns : List ℕ) (calls : List Made) → list_any (λ g. f == g) ns ≡ false
    → All (λ made. list_any (λ g. made.file == g) ns ≡ true) calls → at_moment t f calls ≡ nothing
unmade f t ns calls none all = unmade_replay f ns (λ made. nat_le made.time t) nothing calls none
    (recursion_from_All (λ made. list_any (λ g. made.file == g) ns ≡ true) calls all)

module _ (files : ℕ → Track) (choice : List ℕ) where
  -- files that never were use no choice
  pub gap : (f m : ℕ) → m ≤ f → ((g : ℕ) → m ≤ g → g < f → files g ≡ nothing)
      → choice_at files f choice ≡ choice_at files m choice
  gap zero m le none = ap (λ (n : ℕ). choice_at files n choice)
      (let same : zero ≡ m = omega (arith, le) in same)
  gap (suc f) m le none = ⊎_elim
      (λ (same : suc f ≡ m). ap (λ (n : ℕ). choice_at files n choice) same)
      (λ (other : suc f ≢ m).
      let below : m ≤ f = omega (arith, le, other) in
      ap (λ (s : Track). behind_picked s (choice_at files f choice)) (none f below (omega arith))
      ∙ gap f m below (λ g low high. none g low (omega (arith, high))))
      (cases_eq (suc f) m)

module _ (files : ℕ → Track) (choice : List ℕ) (ns : List ℕ) where
  -- a number with the first few of the list below it and the rest from it on
  pub record Between (i f : ℕ) : Type 0 where
    pub below : (k : ℕ) → k < i → get_or ns k 0 < f
    pub above : (k : ℕ) → i ≤ k → k < length ns → f ≤ get_or ns k 0

  -- what the walk has done after the first few files
  pub record Walked (i : ℕ) (rest : List ℕ) (calls : List Made) : Type 0 where
    pub choice_left : (f : ℕ) → Between i f → rest ≡ choice_at files f choice
    pub done : (k : ℕ) → k < i → replay (get_or ns k 0) nothing calls
        ≡ settled (picked_image files choice (get_or ns k 0))
    pub untouched : (g : ℕ) → ((k : ℕ) → k < i → get_or ns k 0 ≢ g)
        → replay g nothing calls ≡ nothing

  module _ (rising : IsStrictlySortedBy nat_cmp ns)
      (outside : (g : ℕ) → list_any (λ h. g == h) ns ≡ false → files g ≡ nothing) where
    -- a number between two neighbours isn't in the list
    outside_between : (i f g : ℕ) → ((k : ℕ) → k < i → get_or ns k 0 < g)
        → ((k : ℕ) → i ≤ k → k < length ns → g < get_or ns k 0) → files g ≡ nothing
    outside_between i f g low high = ⊎_elim
        (λ (found : (k : ℕ) × (k < length ns) × (get_or ns k 0 ≡ g)). absurd (⊎_elim
        (λ (before : found.0 < i). let less = low found.0 before in omega (arith, less, found.2))
        (λ (from : i ≤ found.0). let less = high found.0 from found.1 in
        omega (arith, less, found.2))
        (lt_or_ge found.0 i)))
        (outside g)
        (place_of g ns)
      where
        lt_or_ge : (a b : ℕ) → (a < b) ⊎ (b ≤ a)
        lt_or_ge a b = grind arith

    -- before the first
    pub walk_start : Walked 0 choice []
    walk_start = record {
      choice_left = λ f between. sym (gap files choice f 0 (omega arith)
          (λ g low high. outside_between 0 f g (λ k less. absurd (omega (arith, less)))
          (λ k from within. let le = between.above k from within in omega (arith, high, le))));
      done = λ k less. absurd (omega (arith, less));
      untouched = λ g none. refl;
    }

    before_in : (i k : ℕ) → k < i → i < length ns → get_or ns k 0 < get_or ns i 0
    before_in i k less within = below_from_sorted ns k i 0 rising less within

    -- the next file stands between those before it and those behind
    here_between : (i : ℕ) → i < length ns → Between i (get_or ns i 0)
    here_between i within = record {
      below = λ k less. before_in i k less within;
      above = λ k from in_list. ⊎_elim
          (λ (same : i ≡ k). let is : get_or ns i 0 ≡ get_or ns k 0 =
          ap (λ (n : ℕ). get_or ns n 0) same in omega (arith, is))
          (λ (other : i ≢ k). let before : i < k = omega (arith, from, other) in
          let less = before_in k i before in_list in omega (arith, less))
          (cases_eq i k);
    }

    -- it gets the choice that those below it left
    pub choice_here : (i : ℕ) (rest : List ℕ) (calls : List Made) → i < length ns
        → Walked i rest calls → rest ≡ choice_at files (get_or ns i 0) choice
    choice_here i rest calls within walked = walked.choice_left (get_or ns i 0)
        (here_between i within)

    -- and no call of it was made yet
    pub untouched_here : (i : ℕ) (rest : List ℕ) (calls : List Made) → i < length ns
        → Walked i rest calls → replay (get_or ns i 0) nothing calls ≡ nothing
    untouched_here i rest calls within walked =
        walked.untouched (get_or ns i 0) (λ k less same. let below = before_in i k less within in
        absurd (omega (arith, below, same)))

    -- one file more
    pub walk_on : (i : ℕ) (rest next_rest : List ℕ) (calls new : List Made) (file : Option (List ℕ))
        → i < length ns → Walked i rest calls
        → file ≡ picked (files (get_or ns i 0)) rest
        → next_rest ≡ behind_picked (files (get_or ns i 0)) rest
        → ((g : ℕ) → replay g nothing new ≡ (if get_or ns i 0 == g then settled file else replay g
        nothing calls)) → Walked (i + 1) next_rest new
    walk_on i rest next_rest calls new file within walked is_file is_rest did = record {
      choice_left = λ f between.
          let n_below : n < f = between.below i (omega arith) in
          is_rest ∙ ap (λ (c : List ℕ). behind_picked (files n) c) here
          ∙ sym (gap files choice f (suc n) (omega (arith, n_below))
          (λ g low high. outside_between (i + 1) f g
          (λ k less. let le : get_or ns k 0 ≤ n = at_most k less in omega (arith, le, low))
          (λ k from in_list. let le = between.above k from in_list in omega (arith, high, le))));
      done = λ k less. ⊎_elim
          (λ (same : k ≡ i). subst Done (sym same) own)
          (λ (other : k ≢ i). did (get_or ns k 0)
          ∙ test_other n (get_or ns k 0) _ _
          (λ is. let below = before_in i k (omega (arith, less, other)) within in
          absurd (omega (arith, below, is)))
          ∙ walked.done k (omega (arith, less, other)))
          (cases_eq k i);
      untouched = λ g none. did g ∙ test_other n g _ _ (none i (omega arith))
          ∙ walked.untouched g (λ k less. none k (omega (arith, less)));
    }
      where
        n : ℕ
        n = get_or ns i 0

        Done : ℕ → Type 0
        Done k = replay (get_or ns k 0) nothing new
            ≡ settled (picked_image files choice (get_or ns k 0))

        here : rest ≡ choice_at files n choice
        here = choice_here i rest calls within walked

        own : Done i
        own = did n ∙ test_same n n _ _ refl ∙ ap settled
            (is_file ∙ ap (λ (c : List ℕ). picked (files n) c) here)

        at_most : (k : ℕ) → k < i + 1 → get_or ns k 0 ≤ n
        at_most k less = ⊎_elim
            (λ (same : k ≡ i). let is : get_or ns k 0 ≡ n = ap (λ (m : ℕ). get_or ns m 0) same in
            omega (arith, is))
            (λ (other : k ≢ i). let below = before_in i k (omega (arith, less, other)) within in
            omega (arith, below))
            (cases_eq k i)

    -- after the last each file stands as picked
    pub walk_end : (i : ℕ) (rest : List ℕ) (calls : List Made) → i ≡ length ns → Walked i rest calls
        → (f : ℕ) → replay f nothing calls ≡ settled (picked_image files choice f)
    walk_end i rest calls all walked f = ⊎_elim
        (λ (found : (k : ℕ) × (k < length ns) × (get_or ns k 0 ≡ f)).
        let P : ℕ → Type 0 = λ n. replay n nothing calls ≡ settled (picked_image files choice n) in
        subst P found.2 (walked.done found.0 (omega (arith, found.1, all))))
        (λ (none : list_any (λ g. f == g) ns ≡ false).
        walked.untouched f (λ k less is. false≢true
        (sym none ∙ listed f ns k (omega (arith, less, all)) is))
        ∙ ap (λ (s : Track). settled (picked s (choice_at files f choice))) (sym (outside f none)))
        (place_of f ns)
