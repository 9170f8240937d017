-- The table whose stream has a name: the table's own name is cut out of that, and no other table's stream can have it.
use Rattle.std.proofs.Common.{◌≡◌, ◌≤◌, ◌<◌, refl, sym, ap, ◌∙◌, ℕ, ◌+◌, ◌-◌, ◌^◌, true, false, List, ◌++◌, length, take, drop, get_or, replicate, Option, Some, None, option_map, codes, decimal, arith, length-append}
use Rattle.std.specs.Prelude.{is_some}
use Rattle.std.specs.FinMap as map
use Rattle.std.specs.FinMap.{entries, entries_sorted, get-entries}
use Rattle.std.specs.Str.{IsCharBoundary, IsUtf8}
use Rattle.std.proofs.lemmas.Str.{IsCharBoundary-after_ascii}
use Rattle.std.proofs.Math.Seq.{take-append_seam, get_or-append_seam}
use Rattle.std.proofs.lemmas.Fmt.{length-decimal-le}
use Rattle.std.proofs.lemmas.List.{append_assoc, length-replicate}
use Rattle.std.proofs.lemmas.Slice.Eq.{bytes_eq-Decides}
use Rattle.std.proofs.lemmas.Option.{same_Some}
use Rattle.std.specs.Cmp.{second_so}
use Rattle.alt_machine.specs.State.{State, Table, Texts}
use Rattle.alt_machine.specs.Streams.{is_stream, table_of_stream}
use Rattle.alt_machine.specs.Valid.{IsValid}
use Rattle.alt_request.proofs.Named.{table_found, table_missed}
use Rattle.alt_schema.specs.Json.{label, stream_arn}
use Rattle.alt_schema.specs.declared.schema.TableSchema.{TableSchema}
use Rattle.alt_streams.specs.private.Named.{IsStreamOf}
use Rattle.alt_streams.proofs.Entries.{found_only, found_none}

-- ---- the name in that of the stream

-- what stands before the table's name
abbrev pub front : List ℕ
front = codes "arn:aws:dynamodb:local:000000000000:table/"

-- what stands behind it
abbrev pub tail : ℕ → List ℕ
tail n = codes "/stream/" ++ label n

module _ (n : ℕ) (small : n < 2 ^ 62) where
  -- a number has at most 21 digits
  digits_few : length (decimal n) ≤ 21
  digits_few = omega (arith, length-decimal-le 20 n (omega arith) (omega (arith, small)) (omega (arith, small)))

  label_long : length (label n) ≡ 21
  unfolding label
  label_long =
      let zeros : List ℕ = replicate (21 - length (decimal n)) 48 in
      let count : length zeros ≡ 21 - length (decimal n) =
      length-replicate (21 - length (decimal n)) 48 in
      omega (arith, length-append zeros (decimal n), count, digits_few)

  tail_long : length (tail n) ≡ 29
  tail_long =
      let eight : length (codes "/stream/") ≡ 8 = refl in
      omega (arith, length-append (codes "/stream/") (label n), label_long, eight)

  module _ (name arn : List ℕ) (is : arn ≡ stream_arn name n) where
    whole : arn ≡ front ++ (name ++ tail n)
    whole = is ∙ append_assoc front name (tail n)

    -- there the name begins, behind a `/`
    pub begins_there : IsUtf8 arn → IsCharBoundary arn 42
    begins_there utf8 =
        let slash : get_or arn 41 0 ≡ 47 = ap (λ a. get_or a 41 0) whole in
        let few : length front ≡ 42 = refl in
        IsCharBoundary-after_ascii arn 41 utf8
        (omega (arith, ap length whole, length-append front (name ++ tail n), few))
        (omega (arith, slash))

    module _ (rest : List ℕ) (cut : rest ≡ drop 42 arn) where
      rest_is : rest ≡ name ++ tail n
      rest_is = cut ∙ ap (drop 42) whole

      pub rest_long : length rest ≡ length name + 29
      rest_long = omega (arith, ap length rest_is, length-append name (tail n), tail_long)

      place : length rest - 29 ≡ length name
      place = omega (arith, rest_long)

      -- there the name ends
      pub name_taken : take (length rest - 29) rest ≡ name
      name_taken = (λ i. take (place i) (rest_is i)) ∙ take-append_seam name (tail n)

      -- a `/` follows it, which is a character of its own
      pub ends_there : IsCharBoundary rest (length rest - 29)
      ends_there =
          let slash : get_or rest (length rest - 29) 0 ≡ 47 =
          (λ i. get_or (rest_is i) (place i) 0)
          ∙ get_or-append_seam name 47 (codes "stream/" ++ label n) 0 in
          (omega (arith, rest_long), λ within large. omega (arith, slash, large))

-- ---- the table

-- where a text is the name of a table's stream, that is the table's name
abbrev pub Cuts : List ℕ → Option (List ℕ) → Type 0
Cuts arn cut = (name : List ℕ) (number : ℕ) → number < 2 ^ 62 → arn ≡ stream_arn name number
    → cut ≡ Some name

module _ (s : State) (valid : IsValid s) (arn : List ℕ) where
  abbrev Is : Table → Type 0
  Is t = is_stream arn t.description ≡ true

  -- it is cut out of the name of its stream
  own_name : (cut : Option (List ℕ)) → Cuts arn cut → (k : List ℕ) (t : Table)
      → map.get s.tables k ≡ Some t → Is t → cut ≡ Some k
  own_name cut cuts k t at is =
      let table = valid.tables k t at in
      let named : stream_arn t.description.name t.description.number ≡ arn =
      (bytes_eq-Decides (stream_arn t.description.name t.description.number) arn).0
      (second_so (is_some t.description.view) _ is) in
      cuts k t.description.number (omega (arith, table.number.1, valid.next_number.1))
      (sym (ap (λ q. stream_arn q t.description.number) (sym table.named) ∙ named))

  found_at : (cut : Option (List ℕ)) → Cuts arn cut → (k : List ℕ) (t : Table)
      → map.get s.tables k ≡ Some t → Is t → table_of_stream s arn ≡ Some t
  found_at cut cuts k t at is = found_only (λ (u : Table). is_stream arn u.description) k t
      (entries s.tables) (entries_sorted s.tables) (sym (get-entries s.tables k) ∙ at) is
      (λ j u there so. same_Some j k
      (sym (own_name cut cuts j u (get-entries s.tables j ∙ there) so)
      ∙ own_name cut cuts k t at is))

  none_at : ((k : List ℕ) (t : Table) → map.get s.tables k ≡ Some t → Is t → ⊥)
      → table_of_stream s arn ≡ None
  none_at never = found_none (λ (u : Table). is_stream arn u.description) (entries s.tables)
      (entries_sorted s.tables) (λ j u there so. never j u (get-entries s.tables j ∙ there) so)

module _ (catalog : Texts TableSchema) (arn : List ℕ) where
  abbrev to : Option Table → Option TableSchema
  to = option_map (λ t. t.description)

  -- the text has no name in it
  pub stream_uncut : Cuts arn None → IsStreamOf catalog arn None
  stream_uncut cuts s valid same = ap to (none_at s valid arn (λ k t at is.
      let no : None ≡ Some k = own_name s valid arn None cuts k t at is in cc no))

  module _ (name : List ℕ) (cuts : Cuts arn (Some name)) where
    -- no table has the name in it
    pub stream_missed : map.get catalog name ≡ None → IsStreamOf catalog arn None
    stream_missed none s valid same = ap to (none_at s valid arn (λ k t at is.
        let one : name ≡ k = same_Some name k (own_name s valid arn (Some name) cuts k t at is) in
        let no : None ≡ Some t = sym (table_missed s catalog same name none)
        ∙ ap (map.get s.tables) one ∙ at in cc no))

    module _ (d : TableSchema) (there : map.get catalog name ≡ Some d) where
      -- its stream has another name, or it has none
      pub stream_other : is_stream arn d ≡ false → IsStreamOf catalog arn None
      stream_other other s valid same = ap to (none_at s valid arn (λ k t at is.
          let one : name ≡ k = same_Some name k (own_name s valid arn (Some name) cuts k t at is) in
          let found = table_found s catalog same name d there in
          let it : found.0 ≡ t =
          same_Some found.0 t (sym found.1 ∙ ap (map.get s.tables) one ∙ at) in
          let no : false ≡ true = sym other ∙ ap (is_stream arn) (sym found.2)
          ∙ ap (λ (u : Table). is_stream arn u.description) it ∙ is in cc no))

      -- its stream has that name
      pub stream_own : is_stream arn d ≡ true → IsStreamOf catalog arn (Some d)
      stream_own is s valid same =
          let found = table_found s catalog same name d there in
          ap to (found_at s valid arn (Some name) cuts name found.0 found.1
          (ap (is_stream arn) found.2 ∙ is)) ∙ ap (λ (x : TableSchema). Some x) found.2
