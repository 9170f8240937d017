-- What a BatchGetItem asks for, step by step.
use Rattle.std.proofs.Common.{◌≡◌, refl, sym, ap, ◌∙◌, Bool, List, [], ◌∷◌, map, None, Result, Ok, Err}
use Rattle.std.specs.FinMap as finite
use Rattle.std.specs.List.{list_any}
use Rattle.serde_json.specs.Data.{Members}
use Rattle.alt_expr.specs.Given.{Given}
use Rattle.alt_machine.specs.declared.BatchMember.{BatchMember}
use Rattle.alt_machine.specs.declared.Expressions.{Expressions}
use Rattle.alt_machine.specs.declared.PlacedMember.{PlacedMember}
use Rattle.alt_machine.specs.Batches.{tables_asked, pairs_in, each_found, of_catalog, has_repeat}
use Rattle.alt_machine.specs.Expressions.{projecting, expressions}
use Rattle.alt_machine.specs.Ops.BatchGetItem.{KeyReads, Shown, of_body, read_table, projection_said, placed_all, reads_asked}
use Rattle.alt_machine.specs.Refusals.{first_answer, or_refused, refuse_if, unless_answer, ◌>>=◌}
use Rattle.alt_machine.specs.State.{Texts}
use Rattle.alt_machine.proofs.Batches.{unless_found}
use Rattle.alt_ops_batch.specs.private.Batches.{keys_said, reads_of, table_projection}
use Rattle.alt_request.specs.Steps.{Comes}
use Rattle.alt_ops_batch.specs.declared.keys.KeysSaid.{KeysSaid}
use Rattle.alt_ops_batch.specs.declared.asked_reads.TableReads.{TableReads}
use Rattle.alt_request.specs.declared.stop.Stop.{Stop}
use Rattle.alt_request.specs.declared.stop.Stop.TheVariants.{Refused, Fault}
use Rattle.alt_request.proofs.Walks.{any_mapped}
use Rattle.alt_schema.specs.declared.schema.TableSchema.{TableSchema}
use Rattle.alt_shape.specs.Refusals.{Answer, not_found, bad_batch}

-- ---- what a projection shows

-- the keys of a table with what its projection shows
abbrev with_shown : KeyReads Given BatchMember → Shown → KeyReads Shown BatchMember
with_shown r shown = record { table = r.table; body = r.body; words = shown; keys = r.keys }

module _ (catalog : Texts TableSchema) (r : KeyReads Given BatchMember) where
  said_by_shown : projection_said catalog r
      ≡ (table_projection catalog r.table r.body r.words >>= (λ shown. Ok (with_shown r shown)))
  said_by_shown = by (or_refused not_found (finite.get catalog r.table))
    where
      by_said : (s : Result Expressions Answer)
          → (s >>= (λ said. Ok (with_shown r said.projection)))
          ≡ (s >>= (λ said. Ok said.projection) >>= (λ shown. Ok (with_shown r shown)))
      by_said (Ok said) = refl
      by_said (Err a) = refl

      by : (o : Result TableSchema Answer)
          → (o >>= (λ d. expressions projecting d r.body r.words
          >>= (λ said. Ok (with_shown r said.projection))))
          ≡ (o >>= (λ d. expressions projecting d r.body r.words >>= (λ said. Ok said.projection))
          >>= (λ shown. Ok (with_shown r shown)))
      by (Ok d) = by_said (expressions projecting d r.body r.words)
      by (Err a) = refl

  -- it is refused
  pub unshown : (stop : Stop)
      → Comes {X = Shown} (λ p. p) (table_projection catalog r.table r.body r.words) (Err stop)
      → Comes {X = KeysSaid} keys_said (projection_said catalog r) (Err stop)
  unshown (Refused q) h =
      (said_by_shown ∙ ap (λ s. s >>= (λ shown. Ok (with_shown r shown))) h.0, h.1)
  unshown (Fault f) h = h

  -- it isn't
  pub shown_so : (shown : Shown) → table_projection catalog r.table r.body r.words ≡ Ok shown
      → projection_said catalog r ≡ Ok (with_shown r shown)
  shown_so shown e = said_by_shown ∙ ap (λ s. s >>= (λ shown. Ok (with_shown r shown))) e

-- ---- all steps

module _ (catalog : Texts TableSchema) (ms asked : Members)
    (taken : unless_answer (first_answer (of_body ms)) (tables_asked ms) ≡ Ok (pairs_in asked))
    (read : List (KeyReads Given BatchMember))
    (reads : each_found read_table (pairs_in asked) ≡ Ok read)
    (known : first_answer (of_catalog catalog (pairs_in asked)) ≡ None)
    (said : List (KeyReads Shown BatchMember)) (says : each_found (projection_said catalog) read ≡ Ok said)
    (there : List TableReads)
    (places : each_found (placed_all catalog) said ≡ Ok (map reads_of there)) where
  abbrev told : List (KeyReads Shown PlacedMember) → Result (List (KeyReads Shown PlacedMember)) Answer
  told rs = unless_answer
      (first_answer (refuse_if (list_any (λ r. has_repeat r.keys) rs) bad_batch ∷ [])) rs

  abbrev from_said : List (KeyReads Shown BatchMember)
      → Result (List (KeyReads Shown PlacedMember)) Answer
  from_said rs = each_found (placed_all catalog) rs >>= told

  abbrev from_read : List (KeyReads Given BatchMember)
      → Result (List (KeyReads Shown PlacedMember)) Answer
  from_read rs = each_found (projection_said catalog) rs >>= from_said

  known_all : first_answer (of_catalog catalog (tables_asked ms)) ≡ None
  known_all = ap (λ ts. first_answer (of_catalog catalog ts))
      (unless_found (first_answer (of_body ms)) (tables_asked ms) (pairs_in asked) taken).1 ∙ known

  -- they come to what says whether a key stands twice
  pub reads_told : (b : Bool) → b ≡ list_any (λ r. has_repeat r.keys.items) there
      → reads_asked catalog ms
      ≡ unless_answer (first_answer (refuse_if b bad_batch ∷ [])) (map reads_of there)
  unfolding reads_asked
  reads_told b e =
      ap (λ ts. ts >>= (λ tables. each_found read_table tables
      >>= (λ rs. unless_answer (first_answer (of_catalog catalog (tables_asked ms))) rs
      >>= from_read))) taken
      ∙ ap (λ rs. rs
      >>= (λ rs. unless_answer (first_answer (of_catalog catalog (tables_asked ms))) rs
      >>= from_read)) reads
      ∙ ap (λ o. unless_answer o read >>= from_read) known_all
      ∙ ap (λ rs. rs >>= from_said) says
      ∙ ap (λ rs. rs >>= told) places
      ∙ ap (λ x. unless_answer (first_answer (refuse_if x bad_batch ∷ [])) (map reads_of there))
      (sym (e ∙ any_mapped reads_of (λ r. has_repeat r.keys) there))
