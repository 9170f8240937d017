-- An index row read back: the keys from the row's key, and the other attributes from its columns.
use Rattle.std.proofs.Common.{◌≡◌, refl, sym, ap, subst, ◌∙◌, ℕ, List, [], ◌++◌, drop, Result, Ok, Err}
use Rattle.std.proofs.lemmas.Bool.{false≢true}
use Rattle.std.specs.Prelude.{not}
use Rattle.std.specs.Int.{w64, to_be_bytes}
use Rattle.std.specs.List.{flat_map}
use Rattle.std.specs.Result.{IsErr, IsErrAnd}
use Rattle.alt_base.proofs.Options.{mapped_some}
use Rattle.alt_cells.specs.Changes.{Columns}
use Rattle.alt_keyorder.specs.KeyBytes.{key_bytes}
use Rattle.alt_keyorder.specs.Place.{key_values, place_bytes}
use Rattle.alt_keyorder.specs.Token.{token_of}
use Rattle.alt_machine.specs.Indexed.{KeyValues, index_place}
use Rattle.alt_machine.proofs.Indexing.{has_keys}
use Rattle.alt_schema.specs.Indexes.{is_key}
use Rattle.alt_schema.specs.declared.schema.IndexSchema.{IndexSchema}
use Rattle.alt_schema.specs.declared.schema.TableSchema.{TableSchema}
use Rattle.alt_value.specs.Tree.{Pair}
use Rattle.alt_views.specs.IndexRows.{beside_keys}
use Rattle.alt_views.specs.ItemRows.{IsReadItem, item_columns}
use Rattle.alt_views.specs.Read.{IsKeptAt, ReadsIndexRow, TakesKeyPart, with_values}
use Rattle.alt_views.specs.declared.item_row.Unread.{Unread}
use Rattle.alt_views.specs.declared.item_row.Unread.TheVariants.{Bad, NoMemory}
use Rattle.alt_views.proofs.Back.{agrees-beside, agrees-values, agrees_all, agrees_itself, names_of, values_item}
use Rattle.alt_views.proofs.ItemRowLaws.{item_columns-one}
use Rattle.alt_views.proofs.Parts.{read-where}
use Rattle.alt_views.proofs.Placing.{place_both}
use Rattle.alt_views.proofs.Values.{HasValues, has_values}

-- ---- what isn't read

-- An error that is none of the row is want of memory.
pub reads_not : (item : List Pair) (e : Unread) → (e ≡ Bad → ⊥) → ReadsIndexRow item (Err e)
reads_not item Bad sound = sound refl
reads_not item NoMemory sound = tt

-- what was passed on is as what was told
pub reads_passed : (item : List Pair) (r : Result (List Pair) Unread) (e : Unread)
    → IsErr r × IsErrAnd r (λ x. x ≡ e) → ReadsIndexRow item (Err e) → ReadsIndexRow item r
reads_passed item (Ok x) e passed reads = absurd (false≢true passed.0)
reads_passed item (Err x) e passed reads = subst (λ y. ReadsIndexRow item (Err y)) (sym passed.1) reads

-- where nothing is taken, nothing is read
pub reads_none : (wanted : List Pair) (key behind : List ℕ) (item : List Pair) (e : Unread)
    (kept : List Pair) → TakesKeyPart wanted key behind item (Err e) → ReadsIndexRow kept (Err e)
reads_none wanted key behind item Bad kept takes = takes
reads_none wanted key behind item NoMemory kept takes = tt

-- ---- the key of a row

-- what stands behind the bytes of a token
pub behind_token : (n : ℕ) (rest : List ℕ) → drop 8 (to_be_bytes w64 n ++ rest) ≡ rest
behind_token n rest = refl

-- Both keys of what an index keeps have their values, and these stand behind the token.
pub record HasBoth (d : TableSchema) (i : IndexSchema) (kept : List Pair) (key : List ℕ) : Type 0 where
  pub own : KeyValues
  pub of_table : KeyValues
  pub owns : HasValues kept i.hash i.range own
  pub keys : HasValues kept d.hash d.range of_table
  pub bytes : drop 8 key ≡ flat_map key_bytes (key_values own.hash own.range)
      ++ flat_map key_bytes (key_values of_table.hash of_table.range)

module _ (d : TableSchema) (i : IndexSchema) (kept : List Pair) (key : List ℕ) (columns : Columns)
    (is : IsKeptAt d i kept key columns) where
  pub has_both : HasBoth d i kept key
  has_both =
      let placed = mapped_some place_bytes (index_place d i kept) key is.place in
      let both = has_keys d i kept placed.0 placed.1 in
      record {
        own = both.own;
        of_table = both.key;
        owns = has_values kept i.hash i.range both.own is.read.whole.0.fields is.named.own_hash
            is.named.own_range both.owns;
        keys = has_values kept d.hash d.range both.key is.read.whole.0.fields is.named.hash
            is.named.range both.keys;
        bytes = ap (drop 8) (sym placed.2 ∙ ap place_bytes (sym both.is)
            ∙ place_both both.own both.key)
            ∙ behind_token (token_of both.own.hash)
            (flat_map key_bytes (key_values both.own.hash both.own.range)
            ++ flat_map key_bytes (key_values both.key.hash both.key.range));
      }

  -- ---- the columns of a row

  -- the other attributes can be read
  pub rest_read : IsReadItem (beside_keys d i kept)
  rest_read = read-where (λ name. not (is_key i.hash i.range name)) _
      (read-where (λ name. not (is_key d.hash d.range name)) kept is.read)

  -- and what was read of the columns is these
  pub rest_is : (item : List Pair) → IsReadItem item × (columns ≡ item_columns item)
      → item ≡ beside_keys d i kept
  rest_is item read = item_columns-one item (beside_keys d i kept) read.0.whole rest_read.whole
      (sym read.1 ∙ is.shows)

  -- ---- the item

  -- with the values of both keys put back they are what the index keeps
  pub put_back : (own of_table : KeyValues) → HasValues kept i.hash i.range own
      → HasValues kept d.hash d.range of_table
      → with_values d.hash d.range of_table
      (with_values i.hash i.range own (beside_keys d i kept)) ≡ kept
  put_back own of_table owns keys =
      let rest = beside_keys d i kept in
      let one = with_values i.hash i.range own rest in
      let of_d = names_of d.hash d.range ++ [] in
      agrees_all kept (with_values d.hash d.range of_table one) is.read.whole.0.names
      (values_item d.hash d.range of_table one keys.are
      (values_item i.hash i.range own rest owns.are rest_read.whole.0.names))
      (agrees-values kept one [] d.hash d.range of_table keys
      (agrees-values kept rest of_d i.hash i.range own owns
      (agrees-beside kept _ of_d i.hash i.range
      (agrees-beside kept kept [] d.hash d.range (agrees_itself kept)))))
