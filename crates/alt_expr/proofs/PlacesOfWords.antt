-- Values and names by word, at the place of a word, and the values of an item one by one.
use Rattle.std.proofs.Common.{◌≡◌, refl, sym, ap, ◌∙◌, ℕ, zero, suc, ◌+◌, ◌<◌, ◌≤◌, T, List, [], ◌∷◌, ◌++◌, length, get_or, map, take, Some, None, inl, inr, arith, add-one}
use Rattle.std.specs.Prelude.{slice_get, option_to_list}
use Rattle.std.proofs.lemmas.List.{get_or_default}
use Rattle.std.proofs.lemmas.Bool.{cases_order}
use Rattle.std.specs.declared.cmp.Ordering.TheVariants.{Less, Equal, Greater}
use Rattle.std.specs.Cmp.{tied_itself}
use Rattle.std.specs.FinMap.Entries.{below_all, is_sorted}
use Rattle.alt_base.proofs.Bools.{first_holds, second_holds}
use Rattle.alt_base.proofs.Orderings.{is_lt-holds}
use Rattle.alt_value.specs.Members.{text_order}
use Rattle.alt_value.specs.Tree.{Tree, Pair}
use Rattle.alt_value.specs.Item.{IsItem, at_name}
use Rattle.alt_value.proofs.Places.{turned, Rises, before_tied}
use Rattle.alt_value.proofs.Texts.{text_total, text_apart}
use Rattle.alt_expr.specs.declared.word_values.WordValue.{WordValue}
use Rattle.alt_expr.specs.WordValues.{pair_of, StandsAt, GoesTo}

module _ {V : Type 0} (tree : V → Tree) where
  -- an entry by its word
  abbrev word_of : WordValue V → List ℕ
  word_of e = e.word

  -- what is below each word is below the one at a place
  below_at : (x : List ℕ) (es : List (WordValue V)) (k : ℕ) (d : WordValue V)
      → T (below_all text_order x (map (pair_of tree) es)) → k < length es
      → text_order x (get_or es k d).word ≡ Less
  below_at x [] k d h within = absurd (omega arith)
  below_at x (e ∷ es) zero d h within = is_lt-holds _ (first_holds _ _ h)
  below_at x (e ∷ es) (suc k) d h within = below_at x es k d (second_holds _ _ h) (omega arith)

  rises-entries : (es : List (WordValue V)) → T (is_sorted text_order (map (pair_of tree) es))
      → Rises text_order text_total word_of es
  rises-entries [] h i j d below within = absurd (omega arith)
  rises-entries (e ∷ es) h i zero d below within = absurd (omega arith)
  rises-entries (e ∷ es) h zero (suc j) d below within =
      below_at e.word es j d (first_holds _ _ h) (omega arith)
  rises-entries (e ∷ es) h (suc i) (suc j) d below within =
      rises-entries es (second_holds _ _ h) i j d (omega arith) (omega arith)

  -- where the word is above an entry, it is above those before it too
  pub before_more : (word : List ℕ) (es : List (WordValue V)) (i : ℕ) (e : WordValue V) → IsItem (map (pair_of tree) es)
      → i < length es → e ≡ get_or es i e
      → text_order e.word word ≡ Less → (k : ℕ) (d : WordValue V) → k < i + 1
      → text_order (get_or es k d).word word ≡ Less
  before_more word es i e item within at h k d below =
      let same : get_or es i d ≡ e = get_or_default es i d e within ∙ sym at in
      elim (cases_order k i) [
        | inl here ↦ rw (here, same) h
        | inr (inl before) ↦ text_total.trans (get_or es k d).word (get_or es i d).word word
            (rises-entries es item.0 k i d before within) (rw same h)
        | inr (inr above) ↦ absurd (omega arith)
      ]

  -- where the word is below an entry, it is below those after it too
  pub after_more : (word : List ℕ) (es : List (WordValue V)) (i : ℕ) (e : WordValue V) → IsItem (map (pair_of tree) es)
      → i < length es → e ≡ get_or es i e
      → text_order e.word word ≡ Greater → (k : ℕ) (d : WordValue V) → i ≤ k → k < length es
      → text_order (get_or es k d).word word ≡ Greater
  after_more word es i e item within at h k d from below =
      let same : get_or es i d ≡ e = get_or_default es i d e within ∙ sym at in
      elim (cases_order k i) [
        | inl here ↦ rw (here, same) h
        | inr (inl before) ↦ absurd (omega arith)
        | inr (inr above) ↦
            turned text_order text_total word (get_or es k d).word Less
            (text_total.trans word (get_or es i d).word (get_or es k d).word
            (rw same (turned text_order text_total e.word word Greater h))
            (rises-entries es item.0 i k d above below))
      ]

  -- where the entry has the word, it stands there
  pub stands_here : (word : List ℕ) (es : List (WordValue V)) (i : ℕ) (e : WordValue V) → IsItem (map (pair_of tree) es)
      → i < length es → e ≡ get_or es i e
      → text_order e.word word ≡ Equal → StandsAt word es i
  stands_here word es i e item within at h =
      let tied : (d : WordValue V) → text_order (get_or es i d).word word ≡ Equal =
      λ d. rw (get_or_default es i d e within, ← at) h in
      record {
        within = within;
        same = λ d. text_apart _ _ (tied d);
        before = before_tied text_order text_total word_of word es i
            (rises-entries es item.0) within tied;
      }

  -- the word comes after an entry that stands before its place
  word_after : (word : List ℕ) (e : WordValue V) → text_order e.word word ≡ Less
      → text_order word e.word ≡ Greater
  word_after word e h = turned text_order text_total e.word word Less h

  -- a word stands before an entry above it, and ties with its own
  word_before : (word : List ℕ) (e : WordValue V) → text_order e.word word ≡ Greater
      → text_order word e.word ≡ Less
  word_before word e h = turned text_order text_total e.word word Greater h

  -- a word ties with itself
  word_itself : (word other : List ℕ) → other ≡ word → text_order word other ≡ Equal
  word_itself word other e = rw e (tied_itself text_total word)

  -- behind the first entry a word stands, or goes, one place earlier
  later_stands : (word : List ℕ) (e : WordValue V) (es : List (WordValue V)) (i : ℕ)
      → StandsAt word (e ∷ es) (suc i) → StandsAt word es i
  later_stands word e es i s = record {
    within = let w : suc i < suc (length es) = s.within in omega arith;
    same = s.same;
    before = λ k d below. s.before (suc k) d (omega arith);
  }

  -- nor does a word that goes there
  later_goes : (word : List ℕ) (e : WordValue V) (es : List (WordValue V)) (i : ℕ) → GoesTo word (e ∷ es) (suc i)
      → GoesTo word es i
  later_goes word e es i g = record {
    within = let w : suc i ≤ suc (length es) = g.within in omega arith;
    before = λ k d below. g.before (suc k) d (omega arith);
    after = λ k d from below. g.after (suc k) d (omega arith) (omega arith);
  }

  -- nor one that goes in front of all
  none_left : (word : List ℕ) (e : WordValue V) (es : List (WordValue V)) → GoesTo word (e ∷ es) zero
      → GoesTo word es zero
  none_left word e es g = record {
    within = omega arith;
    before = λ k d below. absurd (omega arith);
    after = λ k d from below. g.after (suc k) d (omega arith) (omega arith);
  }

  -- the value of a word that stands there is found
  pub at_name-stands : (word : List ℕ) (es : List (WordValue V)) (i : ℕ) (d : WordValue V) → StandsAt word es i
      → at_name word (map (pair_of tree) es) ≡ Some (tree (get_or es i d).value)
  at_name-stands word [] i d s = let w : i < 0 = s.within in absurd (omega arith)
  at_name-stands word (e ∷ es) zero d s = rw (word_itself word e.word (s.same e)) refl
  at_name-stands word (e ∷ es) (suc i) d s =
      rw (word_after word e (s.before 0 e (omega arith)))
      (at_name-stands word es i d (later_stands word e es i s))

  -- nothing is found of a word that goes there
  pub at_name-goes : (word : List ℕ) (es : List (WordValue V)) (i : ℕ) → GoesTo word es i
      → at_name word (map (pair_of tree) es) ≡ None
  at_name-goes word [] i g = refl
  at_name-goes word (e ∷ es) zero g =
      rw (word_before word e (g.after 0 e (omega arith) (omega arith)))
      (at_name-goes word es zero (none_left word e es g))
  at_name-goes word (e ∷ es) (suc i) g =
      rw (word_after word e (g.before 0 e (omega arith)))
      (at_name-goes word es i (later_goes word e es i g))

-- ---- the values of an item

take_next : (ps : List Pair) (i : ℕ) → take i ps ++ option_to_list (slice_get ps i) ≡ take (suc i) ps
take_next [] zero = refl
take_next [] (suc i) = refl
take_next (p ∷ ps) zero = refl
take_next (p ∷ ps) (suc i) = ap (λ (qs : List Pair). p ∷ qs) (take_next ps i)

-- the pairs before a place, and the one that stands there
pub take_on : (ps : List Pair) (i : ℕ) → take i ps ++ option_to_list (slice_get ps i) ≡ take (i + 1) ps
take_on ps i = rw add-one (take_next ps i)
