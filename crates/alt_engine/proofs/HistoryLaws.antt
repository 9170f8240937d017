-- What a family shows after calls of an engine, beside what the batches alone give.
use Rattle.std.proofs.Common.{◌≡◌, ◌+◌, ⊎_elim, ℕ, List, [], ◌∷◌, length, refl, sym, ap, subst, ◌∙◌}
use Rattle.std.specs.Prelude.{None, option_and_then}
use Rattle.std.specs.FinMap.{empty, get as row_of, get-empty}
use Rattle.alt_cells.specs.Joined.{joined_map}
use Rattle.alt_cells.specs.Keys.{key_cmp}
use Rattle.alt_cells.specs.Rows.{join_row}
use Rattle.alt_cells.specs.Shown.{row_shown}
use Rattle.alt_cells.specs.declared.batch.RowChange.{RowChange}
use Rattle.alt_layout.specs.Layout.{Layout, IsPast, RowMap, shown}
use Rattle.alt_layout.specs.Writes.{with_write, with_writes}
use Rattle.alt_layout.proofs.LaterWrites.{same_after_all}
use Rattle.alt_layout.proofs.PastLaws.{is_past_after}
use Rattle.alt_layout.proofs.RowLaws.{next_number-numbered, none_behind}
use Rattle.alt_writes.specs.Writes.{AreRising, Write, numbered}
use Rattle.alt_writes.proofs.PushLaws.{rising-numbered}
use Rattle.alt_merging.specs.HandInHand.{batch_writes}
use Rattle.alt_engine.specs.Histories.{EngineCall, HaveNone, IsNamedByCalls, IsNamedSince, Lead, applied, opened, with_batches_alone, worked}

-- a family without rows shows none
none_shown : (l : Layout) (family : ℕ) → l.rows family ≡ empty → (key : List ℕ)
    → shown l family key ≡ None
none_shown l family none key =
    ap (λ (rows : RowMap). option_and_then row_shown (row_of rows key)) none
    ∙ ap (option_and_then row_shown) (get-empty key_cmp key)

-- no row is of a later write behind writes whose numbers rise from the next one on
past_all : (l : Layout) (ws : List Write) → IsPast l → AreRising l.next_number ws
    → IsPast (with_writes l ws)
past_all l [] past rising = past
past_all l (w ∷ ws) past rising =
    past_all (with_write l w) ws (is_past_after l w past rising.0) rising.1

-- batches without rows of a family leave its rows
rows_left : (l : Layout) (number family : ℕ) (bs : List (List RowChange)) → HaveNone family bs
    → (with_writes l (numbered number bs)).rows family ≡ l.rows family
rows_left l number family [] none = refl
rows_left l number family (b ∷ bs) none =
    rows_left (with_write l (record { number = number; changes = b })) (number + 1) family bs none.1
    ∙ ap (joined_map join_row (l.rows family)) (none.0 number) ∙ none_behind (l.rows family)

-- the same batches are the same writes of both
module _ (l n k : Layout) (family : ℕ) (batches : List (List RowChange)) (past_l : IsPast l)
    (past_n : IsPast n) (next : n.next_number ≡ l.next_number)
    (is : k ≡ with_writes l (batch_writes l batches)) where
  abbrev more : Layout
  more = with_writes n (batch_writes n batches)

  same_writes : batch_writes n batches ≡ batch_writes l batches
  same_writes = ap (λ number. numbered number batches) next

  past_more : IsPast more
  past_more = past_all n (batch_writes n batches) past_n (rising-numbered n.next_number batches)

  next_more : more.next_number ≡ k.next_number
  next_more = next_number-numbered n n.next_number batches refl
      ∙ ap (λ number. number + length batches) next
      ∙ sym (ap (λ (m : Layout). m.next_number) is
      ∙ next_number-numbered l l.next_number batches refl)

  shows_more : ((key : List ℕ) → shown l family key ≡ shown n family key) → (key : List ℕ)
      → shown k family key ≡ shown more family key
  shows_more same key = ap (λ (m : Layout). shown m family key) is
      ∙ same_after_all n l (batch_writes l batches) past_n past_l (sym next)
      (subst (λ number. AreRising number (batch_writes l batches)) (sym next)
      (rising-numbered l.next_number batches)) family key (same key)
      ∙ ap (λ (ws : List Write). shown (with_writes n ws) family key) (sym same_writes)

-- Where each call of work names the family it goes on as the batches alone do.
shows_named : (cs : List EngineCall) (l n m : Layout) (family : ℕ) → IsPast l → IsPast n
    → n.next_number ≡ l.next_number
    → ((key : List ℕ) → shown l family key ≡ shown n family key) → Lead cs l m
    → IsNamedByCalls family cs → (key : List ℕ) → shown m family key ≡ shown (with_batches_alone cs n) family key
shows_named [] l n m family past_l past_n next same lead named key =
    ap (λ (k : Layout). shown k family key) lead ∙ same key
shows_named (applied batches ∷ cs) l n m family past_l past_n next same lead named key =
    shows_named cs lead.0 (with_writes n (batch_writes n batches)) m family lead.2
    (past_more l n lead.0 family batches past_l past_n next lead.1)
    (next_more l n lead.0 family batches past_l past_n next lead.1)
    (shows_more l n lead.0 family batches past_l past_n next lead.1 same) lead.3 named key
shows_named (worked live ∷ cs) l n m family past_l past_n next same lead named key =
    shows_named cs lead.0 n m family lead.2 past_n (next ∙ sym lead.1.number)
    (λ k. lead.1.lives family named.0 k ∙ same k) lead.3 named.1 key
shows_named (opened ∷ cs) l n m family past_l past_n next same lead named key =
    shows_named cs lead.0 n m family lead.2 past_n
    (next ∙ sym (ap (λ (k : Layout). k.next_number) lead.1))
    (λ k. ap (λ (o : Layout). shown o family k) lead.1 ∙ same k) lead.3 named key

-- And so it does where they name it since its first row: before that it shows none.
pub shows_since : (cs : List EngineCall) (l n m : Layout) (family : ℕ) → IsPast l → IsPast n
    → n.next_number ≡ l.next_number
    → ((key : List ℕ) → shown l family key ≡ shown n family key) → n.rows family ≡ empty
    → Lead cs l m → IsNamedSince family cs → (key : List ℕ)
    → shown m family key ≡ shown (with_batches_alone cs n) family key
shows_since [] l n m family past_l past_n next same none lead named key =
    ap (λ (k : Layout). shown k family key) lead ∙ same key
shows_since (applied batches ∷ cs) l n m family past_l past_n next same none lead named key = ⊎_elim
    (λ (before : HaveNone family batches × IsNamedSince family cs).
    shows_since cs lead.0 (with_writes n (batch_writes n batches)) m family lead.2
    (past_more l n lead.0 family batches past_l past_n next lead.1)
    (next_more l n lead.0 family batches past_l past_n next lead.1)
    (shows_more l n lead.0 family batches past_l past_n next lead.1 same)
    (rows_left n n.next_number family batches before.0 ∙ none) lead.3 before.1 key)
    (λ (since : IsNamedByCalls family cs).
    shows_named cs lead.0 (with_writes n (batch_writes n batches)) m family lead.2
    (past_more l n lead.0 family batches past_l past_n next lead.1)
    (next_more l n lead.0 family batches past_l past_n next lead.1)
    (shows_more l n lead.0 family batches past_l past_n next lead.1 same) lead.3 since key) named
shows_since (worked live ∷ cs) l n m family past_l past_n next same none lead named key =
    shows_since cs lead.0 n m family lead.2 past_n (next ∙ sym lead.1.number)
    (λ k. ⊎_elim
    (λ (stays : (k : List ℕ) → shown lead.0 family k ≡ shown l family k). stays k ∙ same k)
    (λ (gone : (k : List ℕ) → shown lead.0 family k ≡ None). gone k ∙ sym (none_shown n family none k))
    (lead.1.others family)) none lead.3 named key
shows_since (opened ∷ cs) l n m family past_l past_n next same none lead named key =
    shows_since cs lead.0 n m family lead.2 past_n
    (next ∙ sym (ap (λ (k : Layout). k.next_number) lead.1))
    (λ k. ap (λ (o : Layout). shown o family k) lead.1 ∙ same k) none lead.3 named key
