-- The description with an index more, and what it is refused for, of the parts that the program makes of them.
use Rattle.std.proofs.Common.{◌≡◌, sym, ap, ◌∙◌, ℕ, Bool, true, false, not, ◌&&◌, if◌then◌else◌, List, [], ◌∷◌, ◌++◌, Option, Some, None}
use Rattle.std.specs.List.{filter}
use Rattle.alt_schema.specs.Altered.{definitions_fit, definitions_with, index_added, indexes_fit_with, keys_fit_with, refused_with, stated_with, with_index}
use Rattle.alt_schema.specs.Described.{index_for}
use Rattle.alt_schema.specs.Rules.{indexes_fit, is_defined, keys_fit_together}
use Rattle.alt_description.specs.declared.schema.Built.TheVariants.{UpTo}
use Rattle.alt_description.specs.declared.schema.IndexSchema.{IndexSchema}
use Rattle.alt_description.specs.declared.schema.KeyAttr.{KeyAttr}
use Rattle.alt_description.specs.declared.schema.TableSchema.{TableSchema}
use Rattle.alt_schema.specs.declared.stated.Stated.{Stated}
use Rattle.alt_schema.specs.declared.stated.StatedIndex.{StatedIndex}
use Rattle.alt_shape.specs.Refusals.{bad_key_schema, bad_index}
use Rattle.alt_shape.specs.declared.refusal.Refusal.{Refusal}

-- a copy with the definitions put behind its own, and with the index behind its global ones
pub with_index_of : (d copy : TableSchema) (more own behind all : List KeyAttr) (family : ℕ)
    (i : StatedIndex) (added : IndexSchema) (globals : List IndexSchema) → copy ≡ d
    → own ≡ d.definitions
    → behind ≡ copy.definitions ++ filter (λ a. not (is_defined own a.name)) more
    → all ≡ behind → added ≡ index_for all family i
    → globals ≡ copy.globals ++ record added { built = UpTo None } ∷ []
    → record copy { definitions = behind; globals = globals } ≡ with_index d more family i
with_index_of d copy more own behind all family i added globals same its put shown is last =
    let defined : behind ≡ definitions_with d more = put
    ∙ (λ j. (same j).definitions ++ filter (λ a. not (is_defined (its j) a.name)) more) in
    let index : added ≡ index_for (definitions_with d more) family i = is
    ∙ ap (λ ds. index_for ds family i) (shown ∙ defined) in
    let behind_globals : globals ≡ d.globals ++ index_added d more family i ∷ [] = last
    ∙ (λ j. (same j).globals ++ record (index j) { built = UpTo None } ∷ []) in
    λ j. record (same j) { definitions = defined j; globals = behind_globals j }

-- what is told, of what the tests tell: the definitions, the keys, and the indexes
abbrev told : Bool → Bool → Bool → Option Refusal
told definitions keys indexes =
    if not (definitions && keys) then Some bad_key_schema
    else (if not indexes then Some bad_index else None)

module _ (d : TableSchema) (given : List KeyAttr) (family : ℕ) (create : StatedIndex)
    (more first second : List KeyAttr) (index : StatedIndex) (later : TableSchema)
    (read : more ≡ given) (once : first ≡ more) (again : second ≡ more) (made : index ≡ create)
    (described : later ≡ with_index d first family index) where
  described_so : later ≡ with_index d given family create
  described_so = described ∙ (λ j. with_index d ((once ∙ read) j) family (made j))

  definitions_so : (b c : Bool) → b ≡ definitions_fit d later second → b ≡ c
      → definitions_fit d (with_index d given family create) given ≡ c
  definitions_so b c fit is =
      sym (fit ∙ (λ j. definitions_fit d (described_so j) ((again ∙ read) j))) ∙ is

  -- definitions that don't fit
  pub bad_definitions : (b : Bool) → b ≡ definitions_fit d later second → b ≡ false
      → refused_with d given family create ≡ Some bad_key_schema
  bad_definitions b fit fails =
      ap (λ x. told x (keys_fit_with d given create) (indexes_fit_with d given create))
      (definitions_so b false fit fails)

  module _ (all : List KeyAttr) (stated : Stated) (shown : all ≡ later.definitions)
      (states : (ms : List KeyAttr) → all ≡ definitions_with d ms → stated ≡ stated_with d ms index)
      (b k : Bool) (fit : b ≡ definitions_fit d later second) (yes : b ≡ true)
      (keys : k ≡ keys_fit_together stated) where
    stated_so : stated ≡ stated_with d given create
    stated_so = states given (shown ∙ ap (λ (t : TableSchema). t.definitions) described_so)
        ∙ ap (λ i. stated_with d given i) made

    keys_so : (c : Bool) → k ≡ c → keys_fit_with d given create ≡ c
    keys_so c is = sym (keys ∙ ap keys_fit_together stated_so) ∙ is

    -- keys that aren't good
    pub bad_keys : k ≡ false → refused_with d given family create ≡ Some bad_key_schema
    bad_keys fails = λ j. told (definitions_so b true fit yes j) (keys_so false fails j)
        (indexes_fit_with d given create)

    module _ (good : k ≡ true) (x : Bool) (indexes : x ≡ indexes_fit stated) where
      indexes_so : (c : Bool) → x ≡ c → indexes_fit_with d given create ≡ c
      indexes_so c is = sym (indexes ∙ ap indexes_fit stated_so) ∙ is

      all_so : (c : Bool) → x ≡ c → refused_with d given family create ≡ told true true c
      all_so c is = λ j. told (definitions_so b true fit yes j) (keys_so true good j)
          (indexes_so c is j)

      -- an index that isn't
      pub bad_indexes : x ≡ false → refused_with d given family create ≡ Some bad_index
      bad_indexes = all_so false

      -- nothing that isn't
      pub all_good : x ≡ true → refused_with d given family create ≡ None
      all_good = all_so true
