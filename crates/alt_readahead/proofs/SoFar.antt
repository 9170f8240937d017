-- A member more of a body that is read ahead.
use Rattle.std.proofs.Common.{◌≡◌, ℕ, List, Option, Some, None, true, false, bytes_eq, refl, sym, ap, ◌∙◌, true≢false}
use Rattle.std.specs.Prelude.{◌≢◌, Ok, codes}
use Rattle.std.proofs.lemmas.Slice.Eq.{bytes_eq-Decides}
use Rattle.serde_json.specs.Data.{Data, object, Members, no_members, put}
use Rattle.serde_json.proofs.Views.{get_member-put, get_member-put_other}
use Rattle.alt_codec.specs.Reading.{item_in}
use Rattle.alt_value.specs.Tree.{Pair}
use Rattle.alt_readahead.specs.Ahead.{SameOthers, IsReadSoFar}
use Rattle.alt_readahead.specs.Direct.{IsReadAhead}
use Rattle.alt_named.specs.Named.{is_among}
use Rattle.alt_shape.specs.Shape.{unless_null, given}

-- ---- what is given, with a member more

-- what was put at a name is given there, unless it is null
pub given-put : (k : List ℕ) (d : Data) (ms : Members) → given k (put k d ms) ≡ unless_null (Some d)
given-put k d ms = ap unless_null (get_member-put k d ms)

-- the other names keep what they have
pub given-put_other : (q k : List ℕ) (d : Data) (ms : Members) → q ≢ k
    → given q (put k d ms) ≡ given q ms
given-put_other q k d ms other = ap unless_null (get_member-put_other q k d ms other)

-- two objects that have the same at a name have it after the same member was put to both
given-put_both : (q k : List ℕ) (d : Data) (ms bs : Members) → given q ms ≡ given q bs
    → given q (put k d ms) ≡ given q (put k d bs)
given-put_both q k d ms bs same =
    elim (bytes_eq q k) as (λ b. bytes_eq q k ≡ b → given q (put k d ms) ≡ given q (put k d bs)) [
      | true ↦ λ e. let is = (bytes_eq-Decides q k).0 e in
          rw is (given-put k d ms ∙ sym (given-put k d bs))
      | false ↦ λ e. let other : q ≢ k = λ is. true≢false (sym ((bytes_eq-Decides q k).1 is) ∙ e) in
          given-put_other q k d ms other ∙ same ∙ sym (given-put_other q k d bs other)
    ] refl

-- ---- what was read so far, with a member more

module _ (names : List (List ℕ)) where
  -- the same member was put to both
  others-put : (k : List ℕ) (d : Data) (ms bs : Members) → SameOthers names ms bs
      → SameOthers names (put k d ms) (put k d bs)
  others-put k d ms bs same = λ q named other. given-put_both q k d ms bs (same q named other)

  -- a member was passed
  others-pass : (k : List ℕ) (d : Data) (ms bs : Members) → is_among names k ≡ false
      → SameOthers names ms bs → SameOthers names (put k d ms) bs
  others-pass k d ms bs apart same = λ q named other.
      let differs : q ≢ k = λ is. true≢false (sym named ∙ ap (is_among names) is ∙ apart) in
      given-put_other q k d ms differs ∙ same q named other

  -- whatever was put at the item's name
  others-put_item : (k : List ℕ) (d e : Data) (ms bs : Members) → k ≡ codes "Item"
      → SameOthers names ms bs → SameOthers names (put k d ms) (put k e bs)
  others-put_item k d e ms bs is same = λ q named other.
      let apart : q ≢ k = λ h. other (h ∙ is) in
      given-put_other q k d ms apart ∙ same q named other ∙ sym (given-put_other q k e bs apart)

  -- the other members are the same, with the item or without it
  others_so_far : (ms bs : Members) (item : Option (List Pair)) → IsReadSoFar names ms bs item
      → SameOthers names ms bs
  others_so_far ms bs None h = h
  others_so_far ms bs (Some i) h = h.others

  -- a member that isn't the item
  pub so_far-put : (k : List ℕ) (d : Data) (bs : Members) (item : Option (List Pair))
      → k ≢ codes "Item" → (ms : Members) → IsReadSoFar names ms bs item
      → IsReadSoFar names (put k d ms) (put k d bs) item
  so_far-put k d bs None other ms h = others-put k d ms bs h
  so_far-put k d bs (Some i) other ms h =
      let apart : codes "Item" ≢ k = λ is. other (sym is) in
      record {
        others = others-put k d ms bs h.others;
        read = (h.read.0, given-put_other _ k d ms apart ∙ h.read.1, h.read.2);
        stub = given-put_other _ k d bs apart ∙ h.stub;
      }

  -- one that is passed
  pub so_far-pass : (k : List ℕ) (d : Data) (bs : Members) (item : Option (List Pair))
      → k ≢ codes "Item" → is_among names k ≡ false → (ms : Members)
      → IsReadSoFar names ms bs item → IsReadSoFar names (put k d ms) bs item
  so_far-pass k d bs None other passed ms h = others-pass k d ms bs passed h
  so_far-pass k d bs (Some i) other passed ms h =
      let apart : codes "Item" ≢ k = λ is. other (sym is) in
      record {
        others = others-pass k d ms bs passed h.others;
        read = (h.read.0, given-put_other _ k d ms apart ∙ h.read.1, h.read.2);
        stub = h.stub;
      }

  -- the item
  pub so_far-item : (k : List ℕ) (os : Members) (i : List Pair) (bs : Members)
      (item : Option (List Pair)) → k ≡ codes "Item" → item_in 32 (object os) ≡ Ok i
      → (ms : Members) → IsReadSoFar names ms bs item
      → IsReadAhead names (put k (object os) ms) (put k (object no_members) bs) i
  so_far-item k os i bs item is reads ms h = record {
    others = others-put_item k (object os) (object no_members) ms bs is
        (others_so_far ms bs item h);
    read = (
      os,
      ap (λ n. given n (put k (object os) ms)) (sym is) ∙ given-put k (object os) ms,
      reads,
    );
    stub = ap (λ n. given n (put k (object no_members) bs)) (sym is)
        ∙ given-put k (object no_members) bs;
  }
