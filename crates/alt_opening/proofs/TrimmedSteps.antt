-- What is known of trimmed changes, read table after table in the order of their families.
use Rattle.std.proofs.Common.{◌≡◌, ◌⊎◌, ◌≤◌, ◌<◌, ⊎_elim, refl, sym, ap, ◌∙◌, ℕ, Bool, true, false, List, [], Option, Some, None, option_map, arith}
use Rattle.std.proofs.lemmas.Bool.{false≢true, lt-leb, le-leb}
use Rattle.std.proofs.lemmas.Slice.Eq.{bytes_eq-Decides}
use Rattle.std.specs.FinMap as map
use Rattle.std.specs.Option.{option_map_or}
use Rattle.std.specs.Prelude.{if◌then◌else◌, nat_le}
use Rattle.std.specs.Str.{bytes_eq}
use Rattle.alt_layout.specs.Layout.{Layout}
use Rattle.alt_machine.specs.declared.TheConstants.{NUMBERS_END}
use Rattle.alt_machine.specs.State.{State, Table, Texts, descriptions}
use Rattle.alt_machine.proofs.Descriptions.{get-descriptions}
use Rattle.alt_schema.specs.declared.schema.TableSchema.{TableSchema}
use Rattle.alt_opening.specs.private.Opening.{AreTrimmedIn, AreTrimmedUpTo, IsCatalog, IsLeastTable, IsNextTable}
use Rattle.alt_opening.specs.StreamScans.{stream_trimmed}
use Rattle.alt_opening.specs.Trimmed.{AreTrimmedOf, number_at, with_number}
use Rattle.alt_opening.specs.declared.trimmed.Trimmed.{Trimmed}
use Rattle.alt_opening.proofs.FirstWrong.{known_family, same_table}
use Rattle.alt_opening.proofs.TableSteps.{up_to_or_above}
use Rattle.alt_opening.proofs.TrimmedLaws.{number-with}

module _ (l : Layout) (next : ℕ) (catalog : Texts TableSchema) (read : IsCatalog l next catalog)
    (number : (1 ≤ l.next_number) × (l.next_number ≤ NUMBERS_END)) where
  -- what is known of a table up to a family
  abbrev known_to : ℕ → TableSchema → ℕ
  known_to family d = if nat_le d.family family then stream_trimmed l d else 0

  -- what is known of a name
  abbrev at_name : ℕ → Option TableSchema → ℕ
  at_name family o = option_map_or (known_to family) o 0

  known_up : (family : ℕ) (d : TableSchema) → d.family ≤ family
      → known_to family d ≡ stream_trimmed l d
  known_up family d low =
      ap (λ b. if b then stream_trimmed l d else 0) (le-leb d.family family low)

  not_known : (family : ℕ) (d : TableSchema) → family < d.family → known_to family d ≡ 0
  not_known family d high =
      ap (λ b. if b then stream_trimmed l d else 0) (lt-leb d.family family high)

  -- nothing yet
  pub none_known : AreTrimmedUpTo l catalog 0 []
  none_known name = by (map.get catalog name) refl
    where
      by : (o : Option TableSchema) → map.get catalog name ≡ o
          → 0 ≡ at_name 0 (map.get catalog name)
      by None e = sym (ap (at_name 0) e)
      by (Some d) e = sym (ap (at_name 0) e
          ∙ not_known 0 d (let high = (known_family l next catalog read number name d e).0 in
          omega (arith, high)))

  -- the number of the next table too
  module _ (family : ℕ) (known : List Trimmed) (so_far : AreTrimmedUpTo l catalog family known)
      (d : TableSchema) (least : IsLeastTable catalog family d) where
    named : d.name ≡ least.name
    named = (read.good least.name d least.there).named

    there : map.get catalog d.name ≡ Some d
    there = ap (map.get catalog) named ∙ least.there

    -- nothing was known of it
    nothing : number_at d.name known ≡ 0
    nothing = so_far d.name ∙ ap (at_name family) there ∙ not_known family d least.above

    -- of another table the same is known
    same_known : (q : List ℕ) (e : TableSchema) → map.get catalog q ≡ Some e
        → bytes_eq d.name q ≡ false → known_to family e ≡ known_to d.family e
    same_known q e at other = ⊎_elim
        (λ (before : e.family ≤ family). let up = least.above in
        known_up family e before ∙ sym (known_up d.family e (omega (arith, before, up))))
        (λ (behind : family < e.family). not_known family e behind
        ∙ sym (not_known d.family e (later behind (up_to_or_above e.family d.family))))
        (up_to_or_above e.family family)
      where
        later : family < e.family → (e.family ≤ d.family) ⊎ (d.family < e.family)
            → d.family < e.family
        later behind either = ⊎_elim
            (λ (low : e.family ≤ d.family).
            let from = least.least q e at behind in
            let one : d ≡ e = same_table l next catalog read number least.name q d e least.there at
            (omega (arith, low, from)) in
            absurd (false≢true (sym other ∙ (bytes_eq-Decides d.name q).1
            (ap (λ (x : TableSchema). x.name) one ∙ (read.good q e at).named))))
            (λ (high : d.family < e.family). high)
            either

    pub more_known : (n : ℕ) → n ≡ stream_trimmed l d
        → AreTrimmedUpTo l catalog d.family (with_number d.name n known)
    more_known n told q = number-with d.name n known nothing q ∙ by (bytes_eq d.name q) refl
      where
        others : (o : Option TableSchema) → map.get catalog q ≡ o → bytes_eq d.name q ≡ false
            → at_name family o ≡ at_name d.family o
        others None e other = refl
        others (Some x) e other = same_known q x e other

        by : (b : Bool) → bytes_eq d.name q ≡ b → (if b then n else number_at q known)
            ≡ at_name d.family (map.get catalog q)
        by true same = told ∙ sym (known_up d.family d (omega arith))
            ∙ sym (ap (at_name d.family) (ap (map.get catalog)
            (sym ((bytes_eq-Decides d.name q).0 same)) ∙ there))
        by false other = so_far q ∙ others (map.get catalog q) refl other

  -- and where no other follows, that of each
  pub all_known : (family : ℕ) (known : List Trimmed) → AreTrimmedUpTo l catalog family known
      → IsNextTable catalog family None → AreTrimmedIn l catalog known
  all_known family known so_far last name = so_far name ∙ by (map.get catalog name) refl
    where
      by : (o : Option TableSchema) → map.get catalog name ≡ o
          → at_name family o ≡ option_map_or (stream_trimmed l) o 0
      by None e = refl
      by (Some d) e = known_up family d (last name d e)

-- So what is known is what was trimmed in a state.
pub trimmed_state : (l : Layout) (catalog : Texts TableSchema) (s : State)
    → descriptions s.tables ≡ catalog
    → ((name : List ℕ) (t : Table) → map.get s.tables name ≡ Some t
    → t.trimmed ≡ stream_trimmed l t.description)
    → (known : List Trimmed) → AreTrimmedIn l catalog known → AreTrimmedOf s.tables known
trimmed_state l catalog s same trimmed known told name = told name
    ∙ ap (λ (m : Texts TableSchema). option_map_or (stream_trimmed l) (map.get m name) 0) (sym same)
    ∙ ap (λ o. option_map_or (stream_trimmed l) o 0) (get-descriptions s.tables name)
    ∙ by (map.get s.tables name) refl
  where
    by : (o : Option Table) → map.get s.tables name ≡ o
        → option_map_or (stream_trimmed l) (option_map (λ (t : Table). t.description) o) 0
        ≡ option_map_or (λ (t : Table). t.trimmed) o 0
    by None e = refl
    by (Some t) e = sym (trimmed name t e)
