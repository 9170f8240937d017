-- What the rows of a stream tell of it.
use Rattle.std.proofs.Common.{◌≡◌, sym, ap, subst, ◌∙◌, ℕ, Some, None}
use Rattle.std.proofs.lemmas.Option.{same_Some}
use Rattle.std.specs.Option.{option_map_or}
use Rattle.alt_layout.specs.Layout.{Layout}
use Rattle.alt_schema.specs.declared.schema.TableSchema.{TableSchema}
use Rattle.alt_opening.specs.StreamScans.{ChangesRead, ChangesWhere, IsChangeFault, IsFirstForeignChange, IsStreamFault, IsStreamRow, stream_trimmed, trimmed_in}
use Rattle.alt_opening.specs.declared.faults.OpenFault.{OpenFault}
use Rattle.alt_opening.specs.declared.faults.OpenFault.TheVariants.{Damaged, DigestDiffers, BadRow, Failed, NoMemory}
pub use Rattle.alt_tablerows.proofs.StreamTests.{one_change_at}

-- ---- the rows of a family are those of the stream

module _ (l : Layout) (d : TableSchema) (family : ℕ) (stream : d.stream_family ≡ Some family)
    (next trimmed : ℕ) (same : next ≡ l.next_number) (told : trimmed ≡ trimmed_in l family) where
  -- read
  pub stream_read : ChangesWhere (λ key. Unit {0}) l d next trimmed family → ChangesRead l d
  stream_read read other is =
      subst (λ f. ChangesWhere (λ key. Unit {0}) l d l.next_number (trimmed_in l f) f)
      (same_Some family other (sym stream ∙ is))
      (λ key row here shows. subst (λ z. IsStreamRow d l.next_number z key row) told
      (subst (λ n. IsStreamRow d n trimmed key row) same (read key row here shows)))

  -- what they tell was trimmed
  pub stream_told : trimmed ≡ stream_trimmed l d
  stream_told = told ∙ sym (ap (λ o. option_map_or (trimmed_in l) o 0) stream)

  -- or not
  pub stream_wrong : (fault : OpenFault) → IsChangeFault l d next trimmed family fault
      → IsStreamFault l d fault
  stream_wrong (Damaged file at) is = is
  stream_wrong (DigestDiffers file kept found) is = is
  stream_wrong (BadRow f key) is = record {
    stream = stream ∙ ap Some (sym is.0);
    first = subst (λ g. IsFirstForeignChange l d l.next_number (trimmed_in l g) g key) (sym is.0)
        (subst (λ z. IsFirstForeignChange l d l.next_number z family key) told
        (subst (λ n. IsFirstForeignChange l d n trimmed family key) same is.1));
  }
  stream_wrong Failed is = is
  stream_wrong NoMemory is = is

-- a table without a stream trimmed nothing
pub none_told : (l : Layout) (d : TableSchema) → d.stream_family ≡ None → 0 ≡ stream_trimmed l d
none_told l d none = sym (ap (λ o. option_map_or (trimmed_in l) o 0) none)
