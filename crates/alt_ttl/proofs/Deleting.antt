-- An ExpireItems comes to the deletions that were looked up.
use Rattle.std.proofs.Common.{◌≡◌, ◌≤◌, refl, sym, ap, subst, ◌∙◌, ℕ, List, map, length}
use Rattle.std.specs.Prelude.{codes}
use Rattle.std.proofs.lemmas.List.{length-map}
use Rattle.serde_json.specs.Data.{number, unsigned}
use Rattle.alt_codec.specs.declared.writer.Writer.TheVariants.{Expiry}
use Rattle.alt_disk.specs.Disk.{DiskState}
use Rattle.alt_machine.specs.declared.Standing.{Standing}
use Rattle.alt_machine.specs.Expiry.{deletions, expiring, gone_at}
use Rattle.alt_machine.specs.Ops.BatchWriteItem.{writes_of_all_by}
use Rattle.alt_machine.specs.Ops.ExpireItems.{expire_items, expired}
use Rattle.alt_machine.specs.declared.TheConstants.{NUMBERS_END}
use Rattle.alt_machine.specs.Outcomes.{Outcome, Wants, together, writes_together}
use Rattle.alt_machine.specs.Replies.{answers}
use Rattle.alt_machine.specs.State.{State}
use Rattle.alt_ops_batch.proofs.Writing.{together_broke, together_made}
use Rattle.alt_request.specs.TablesFaults.{AreAllMade, AreMade, BreakOff, BreakOffAll, IsFindFault}
use Rattle.alt_request.specs.TablesImages.{Leaves}
use Rattle.alt_request.specs.TablesSeveral.{written_at}
use Rattle.alt_request.specs.TablesDeclaredTableFault.{TableFault}
use Rattle.alt_request.specs.TablesDeclaredTableFault.TheVariants.{Spent, Damaged, BadRow, Failed, NoMemory}
use Rattle.alt_request.specs.TablesDeclaredItemChange.{ItemChange}

-- what is written
pub expire_is : (s : State) (moment : ℕ)
    → expire_items s moment ≡ writes_together s (deletions s moment) (expired s moment)
unfolding expire_items
expire_is s moment = refl

module _ (s : State) (moment : ℕ) (cs : List ItemChange)
    (written : map written_at cs ≡ map gone_at (expiring s moment)) where
  -- the writes of what was looked up are the deletions
  pub deletions_are : writes_of_all_by s moment Expiry (map written_at cs) ≡ deletions s moment
  deletions_are = ap (writes_of_all_by s moment Expiry) written

  -- so many are they
  pub count_is : length cs ≡ length (expiring s moment)
  count_is = sym (length-map cs (λ (c : ItemChange). written_at c)) ∙ ap length written
      ∙ length-map (expiring s moment) (λ (e : Standing). gone_at e)

  -- and so it is answered
  pub answered_is : answers (codes "Expired") (number (unsigned (length cs))) ≡ expired s moment
  answered_is = ap (λ n. answers (codes "Expired") (number (unsigned n))) count_is

  -- what the writes leave is what the one write of the outcome leaves
  pub leaves_is : (read after : DiskState)
      → Leaves read after s (together s (writes_of_all_by s moment Expiry (map written_at cs)))
      → Leaves read after s (expire_items s moment).atoms
  leaves_is read after leaves = subst (λ (o : Outcome). Leaves read after s o.atoms)
      (sym (expire_is s moment))
      (subst (λ ws. Leaves read after s (together s ws)) deletions_are leaves)

  -- all are made
  pub made_is : (now : State → Type 0) → AreAllMade now s (writes_of_all_by s moment Expiry (map written_at cs))
      → AreMade now (expire_items s moment).wants s (expire_items s moment).atoms
  made_is now h = subst (λ (o : Outcome). AreMade now o.wants s o.atoms) (sym (expire_is s moment))
      (together_made now s (deletions s moment) (subst (AreAllMade now s) deletions_are h))

  -- or none is
  pub broke_is : (file : ℕ) (now : State → Type 0) → (f : TableFault) → s.next_number ≤ NUMBERS_END
      → BreakOffAll file now s (writes_of_all_by s moment Expiry (map written_at cs)) f
      → BreakOff file now (expire_items s moment).wants s (expire_items s moment).atoms f
  broke_is file now f valid h = subst (λ (o : Outcome). BreakOff file now o.wants s o.atoms f)
      (sym (expire_is s moment)) (together_broke file now s (deletions s moment) f valid
      (subst (λ ws. BreakOffAll file now s ws f) deletions_are h))

-- a search that failed breaks off all
pub search_broke : (file : ℕ) (now : State → Type 0) (wants : Wants) (s : State) (atoms : List State)
    (f : TableFault) → IsFindFault f → BreakOff file now wants s atoms f
search_broke file now wants s atoms (Spent n) h = absurd h
search_broke file now wants s atoms (Damaged g at) h = absurd h
search_broke file now wants s atoms (BadRow family key) h = absurd h
search_broke file now wants s atoms Failed h = tt
search_broke file now wants s atoms NoMemory h = tt
