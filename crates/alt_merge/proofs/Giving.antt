-- What several sources have in hand, and what a merge gives of it.
use Rattle.std.proofs.Common.{◌≡◌, Bool, List, [], ◌∷◌, length, map, Option, Some, None, refl, sym, ap, subst, ◌∙◌, arith, ℕ}
use Rattle.alt_disk.specs.Disk.{DiskState}
use Rattle.alt_cells.specs.Joined.{all_joined}
use Rattle.alt_cells.specs.Rows.{join_row}
use Rattle.alt_cells.specs.Walks.{RowList, walk_cmp, Gives}
use Rattle.alt_cells.specs.declared.row.RowCells.{RowCells}
use Rattle.alt_merge.specs.declared.head.Head.{Head}
use Rattle.alt_merge.specs.declared.head.Head.TheVariants.{Due, Held, End}
use Rattle.alt_merge.specs.declared.merge.Merge.{Merge}
use Rattle.alt_merge.specs.Costs.{AreFreed}
use Rattle.alt_merge.specs.Merges.{AllFilled, AllSorted, AreFilledBy, GivesFirst, NoneHeld, with_head, with_heads}
use Rattle.alt_merge.specs.Whole.{HeadsGive, MergeNext, held_rows}
use Rattle.alt_merge.specs.Whole.MergeNext.{asked}
use Rattle.alt_merge.proofs.Heads.{none_left}

-- nothing behind each head
abbrev nothing : List Head → List RowList
nothing heads = map (λ h. []) heads

-- before nothing, heads have what is in hand
in_hand_alone : (heads others : List Head) → length others ≡ length heads
    → with_heads heads (nothing others) ≡ map (λ h. with_head h []) heads
in_hand_alone [] others same = refl
in_hand_alone (h ∷ heads) [] same = absurd (omega (arith, same))
in_hand_alone (h ∷ heads) (o ∷ others) same =
    ap (λ l. with_head h [] ∷ l) (in_hand_alone heads others (omega (arith, same)))

-- and each has one row at most, in any order
each_alone : (forward : Bool) (heads : List Head) → AllSorted forward (with_heads heads (nothing heads))
each_alone forward [] = tt
each_alone forward (Due ∷ heads) = (tt, each_alone forward heads)
each_alone forward (Held key row ∷ heads) = (tt, each_alone forward heads)
each_alone forward (End ∷ heads) = (tt, each_alone forward heads)

length_nothing : (heads : List Head) → length heads ≡ length (nothing heads)
length_nothing [] = refl
length_nothing (h ∷ heads) = omega (arith, length_nothing heads)

-- what is the first row whatever is left behind the heads is the first of those in hand
pub heads_give : (forward : Bool) (before after : List Head) (given : Option (List ℕ × RowCells))
    → ((tails : List RowList) → length before ≡ length tails
    → AllSorted forward (with_heads before tails) → GivesFirst forward before after tails given)
    → AreFreed given before after → length after ≡ length before
    → HeadsGive forward before after given
heads_give forward before after None first freed same =
    absurd (first (nothing before) (length_nothing before) (each_alone forward before))
heads_give forward before after (Some e) first freed same =
    let all = all_joined (walk_cmp forward) join_row in
    let g = first (nothing before) (length_nothing before) (each_alone forward before) in
    let is : held_rows forward before ≡ e ∷ held_rows forward after =
    ap all (sym (in_hand_alone before before refl)) ∙ g.1
    ∙ ap (λ l. e ∷ all l) (in_hand_alone after before (sym same)) in (
      subst (λ l. Gives (λ rows. rows ≡ held_rows forward after) l (Some e)) (sym is) (refl, refl),
      freed,
    )

-- where no row is in hand none is given
pub heads_none : (forward : Bool) (heads : List Head) → AllFilled heads → NoneHeld heads
    → HeadsGive forward heads heads None
heads_none forward heads filled none =
    let is : held_rows forward heads ≡ [] =
    ap (all_joined (walk_cmp forward) join_row) (sym (in_hand_alone heads heads refl))
    ∙ none_left forward heads (nothing heads) filled none in
    (subst (λ l. Gives (λ rows. rows ≡ held_rows forward heads) l None) (sym is) (sym is), tt)

-- what the lists say of sources and heads the merge says
pub asked_merge : {S : Type 0}
    (Nexts : DiskState → DiskState → S → Option (List ℕ × RowCells) → S → Type 0) (a b : DiskState)
    (before after : Merge S) (xs ys : List S) (hs fs gs : List Head)
    (given : Option (List ℕ × RowCells)) → xs ≡ before.sources.items → hs ≡ before.heads.items
    → after.sources.items ≡ ys → after.heads.items ≡ gs → after.forward ≡ before.forward
    → AreFilledBy Nexts a b xs hs ys fs → HeadsGive before.forward fs gs given
    → MergeNext Nexts a b before given after
asked_merge Nexts a b before after xs ys hs fs gs given is_xs is_hs is_ys is_gs way filled gives =
    asked fs
    (subst (λ l. AreFilledBy Nexts a b before.sources.items before.heads.items l fs) (sym is_ys)
    (subst (λ l. AreFilledBy Nexts a b before.sources.items l ys fs) is_hs
    (subst (λ l. AreFilledBy Nexts a b l hs ys fs) is_xs filled)))
    (subst (λ l. HeadsGive before.forward fs l given) (sym is_gs) gives) way
