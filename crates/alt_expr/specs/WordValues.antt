-- Values and names by word, and where a word stands among them or is to go.
use Rattle.std.specs.Prelude.{◌≡◌, ℕ, ◌<◌, ◌≤◌, List, length, slice_index_or}
use Rattle.std.specs.declared.cmp.Ordering.TheVariants.{Less, Greater}
use Rattle.alt_value.specs.Members.{text_order}
use Rattle.alt_value.specs.Tree.{Tree, Pair}
use Rattle.alt_expr.specs.declared.word_values.WordValue.{WordValue}

module _ {V : Type 0} where
  -- what is kept by a word, as a pair
  abbrev pub pair_of : (V → Tree) → WordValue V → Pair
  pair_of tree e = (e.word, tree e.value)

  -- the word stands at the place, and the words before it are below it
  pub record StandsAt (word : List ℕ) (entries : List (WordValue V)) (i : ℕ) : Type 0 where
    pub within : i < length entries
    pub same : (d : WordValue V) → (slice_index_or entries i d).word ≡ word
    pub before : (k : ℕ) (d : WordValue V) → k < i → text_order (slice_index_or entries k d).word word ≡ Less

  -- the words before the place are below the word, and those from it on are above
  pub record GoesTo (word : List ℕ) (entries : List (WordValue V)) (i : ℕ) : Type 0 where
    pub within : i ≤ length entries
    pub before : (k : ℕ) (d : WordValue V) → k < i → text_order (slice_index_or entries k d).word word ≡ Less
    pub after : (k : ℕ) (d : WordValue V) → i ≤ k → k < length entries → text_order (slice_index_or entries k d).word word ≡ Greater
