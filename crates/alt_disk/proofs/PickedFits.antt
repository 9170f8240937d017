-- Whatever a choice picks of a file, a stop may leave.
use Rattle.std.proofs.Common.{◌≡◌, ◌<◌, lit<, ◌==◌, ◌||◌, cond, inl, inr, ℕ, zero, suc, Bool, true, false, List, [], ◌∷◌, ◌++◌, length, drop, Option, Some, None, refl, sym, arith}
use Rattle.std.proofs.Common.{Fits as FitsWidth, w8, get_or}
use Rattle.std.proofs.Math.Facts.{Fits-lt-pow}
use Rattle.std.proofs.lemmas.Bool.{false≢true}
use Rattle.std.specs.List.{AllByRecursion}
use Rattle.alt_disk.specs.Fates.{Shape, Fates, Fits, FitsAny, FitsBytes, AreBytes}
use Rattle.alt_disk.specs.Disk.{bytes_or_none}
use Rattle.alt_disk.specs.Memory.{Track}
use Rattle.alt_disk.specs.Stopped.{Generation, next, removed_ones, with_last, generations, is_missing, any_missing, may_miss, old_or, by_byte, chosen, behind_chosen, past_end, behind_length, open_bytes, filled, behind_filled, laid, left_file, behind_left, picked, choice_at}

-- what fits eight bits are bytes
pub fitting_bytes : (bytes : List ℕ) → ((i : ℕ) → FitsWidth w8 (get_or bytes i 0)) → AreBytes bytes
fitting_bytes [] fits = tt
fitting_bytes (b ∷ bytes) fits = (Fits-lt-pow (fits 0), fitting_bytes bytes (λ i. fits (suc i)))

-- the next byte of choice is one
next_byte : (choice : List ℕ) → AreBytes choice → next choice < 256
next_byte [] bytes = lit< tt
next_byte (b ∷ choice) bytes = bytes.0

-- and so are those behind it
behind_next : (choice : List ℕ) → AreBytes choice → AreBytes (drop 1 choice)
behind_next [] bytes = tt
behind_next (b ∷ choice) bytes = bytes.1

-- open bytes are bytes
open_are : (n : ℕ) (choice : List ℕ) → AreBytes choice → AreBytes (filled (open_bytes n) choice)
open_are zero choice bytes = tt
open_are (suc n) choice bytes =
    (next_byte choice bytes, open_are n (drop 1 choice) (behind_next choice bytes))

-- open bytes behind the synced end fit a loose file
open_fits : (n : ℕ) (loose : Bool) (choice : List ℕ) → AreBytes choice → (loose ≡ false → n ≡ 0)
    → FitsBytes [] loose (filled (open_bytes n) choice)
open_fits n true choice bytes none = open_are n choice bytes
open_fits zero false choice bytes none = refl
open_fits (suc n) false choice bytes none = absurd
    (let e : suc n ≡ 0 = none refl in omega (arith, e))

-- filled bytes fit their shape
filled_fits : (known : List (Option ℕ)) (n : ℕ) (loose : Bool) (choice : List ℕ) → AreBytes choice
    → (loose ≡ false → n ≡ 0) → FitsBytes known loose (filled (known ++ open_bytes n) choice)
filled_fits [] n loose choice bytes none = open_fits n loose choice bytes none
filled_fits (Some b ∷ known) n loose choice bytes none =
    (refl, filled_fits known n loose choice bytes none)
filled_fits (None ∷ known) n loose choice bytes none = (
  next_byte choice bytes,
  filled_fits known n loose (drop 1 choice)
      (behind_next choice bytes) none,
)

-- without a loose end nothing is past the end
past_none : (loose : Bool) (a b : ℕ) → loose ≡ false → cond loose a b ≡ b
past_none true a b none = absurd (false≢true (sym none))
past_none false a b none = refl

-- a stop may leave this file, whatever its open bytes are
abbrev LeftOf : Fates → Option Generation → Type 0
LeftOf fates None = Fits fates None
LeftOf fates (Some g) = (bytes : List ℕ) → FitsBytes g.shape.known g.shape.loose bytes
    → Fits fates (Some bytes)

-- whatever its open bytes are, this file fits one of these shapes
abbrev AmongOthers : List (Option Shape) → Generation → Type 0
AmongOthers others g = (bytes : List ℕ) → FitsBytes g.shape.known g.shape.loose bytes
    → FitsAny others (Some bytes)

-- one shape more
one_more : (s : Option Shape) (others : List (Option Shape)) (gs : List Generation)
    → AllByRecursion (AmongOthers others) gs → AllByRecursion (AmongOthers (s ∷ others)) gs
one_more s others [] all = all
one_more s others (g ∷ gs) all = (λ bytes fits. inr (all.0 bytes fits), one_more s others gs all.1)

-- each of those that were removed fits one of them
removed_left : (others : List (Option Shape)) (sizes : List ℕ)
    → AllByRecursion (AmongOthers others) (removed_ones others sizes)
removed_left [] sizes = tt
removed_left (None ∷ others) sizes = one_more None others (removed_ones others sizes)
    (removed_left others sizes)
removed_left (Some s ∷ others) sizes = (
  λ bytes fits. inl fits,
  one_more (Some s) others (removed_ones others (drop 1 sizes))
      (removed_left others (drop 1 sizes)),
)

-- so a stop may leave each of them
all_left : (last : Option Shape) (others : List (Option Shape)) (gs : List Generation)
    → AllByRecursion (AmongOthers others) gs → AllByRecursion
    (λ g. LeftOf (record { last = last; others = others }) (Some g)) gs
all_left last others [] all = all
all_left last others (g ∷ gs) all = (
  λ bytes fits. inr (all.0 bytes fits),
  all_left last others gs all.1,
)

-- and the one that is there
generations_left : (last : Option Shape) (others : List (Option Shape)) (size : ℕ)
    (gs : List Generation) → AllByRecursion (AmongOthers others) gs
    → AllByRecursion (λ g. LeftOf (record { last = last; others = others }) (Some g))
    (with_last last size gs)
generations_left None others size gs all = all_left None others gs all
generations_left (Some s) others size gs all =
    (λ bytes fits. inl fits, all_left (Some s) others gs all)

-- where one of them is missing, so may the file be
other_missing : (others : List (Option Shape)) → any_missing others ≡ true → FitsAny others None
other_missing [] miss = absurd (false≢true miss)
other_missing (None ∷ others) miss = inl tt
other_missing (Some s ∷ others) miss = inr (other_missing others miss)

-- where a stop may leave no file, it may
missing_left : (last : Option Shape) (others : List (Option Shape))
    → (is_missing last || any_missing others) ≡ true
    → Fits (record { last = last; others = others }) None
missing_left None others miss = inl tt
missing_left (Some s) others miss = inr (other_missing others miss)

-- and where there is no file to leave
none_left : (last : Option Shape) (others : List (Option Shape)) (size : ℕ) (gs : List Generation)
    → with_last last size gs ≡ [] → Fits (record { last = last; others = others }) None
none_left None others size gs none = inl tt
none_left (Some s) others size gs none = cc

-- whichever a byte decides on may be left
by_byte_left : (fates : Fates) (byte : ℕ) (last : Generation) (more : List Generation)
    → LeftOf fates None → AllByRecursion (λ g. LeftOf fates (Some g)) (last ∷ more)
    → LeftOf fates (by_byte byte last more)
by_byte_left fates byte last more none all = by_tests (byte == 0) (byte == 2)
  where
    old_left : (gs : List Generation) → AllByRecursion (λ g. LeftOf fates (Some g)) gs
        → LeftOf fates (Some (old_or last gs))
    old_left [] left = all.0
    old_left (g ∷ gs) left = left.0

    by_tests : (a b : Bool) → LeftOf fates (cond a None (Some (cond b (old_or last more) last)))
    by_tests true b = none
    by_tests false true = old_left more all.1
    by_tests false false = all.0

-- whichever is chosen may be left
chosen_left : (fates : Fates) (miss : Bool) (gs : List Generation) (choice : List ℕ)
    → (miss ≡ true → Fits fates None) → (gs ≡ [] → Fits fates None)
    → AllByRecursion (λ g. LeftOf fates (Some g)) gs → LeftOf fates (chosen miss gs choice)
chosen_left fates miss [] choice may none all = none refl
chosen_left fates false (last ∷ more) choice may none all = all.0
chosen_left fates true (last ∷ more) choice may none all =
    by_byte_left fates (next choice) last more (may refl) all

-- the choice behind the byte that decides the length
behind_length_bytes : (g : Generation) (choice : List ℕ) → AreBytes choice
    → AreBytes (behind_length g choice)
behind_length_bytes g choice bytes = by_loose g.shape.loose
  where
    by_loose : (loose : Bool) → AreBytes (cond loose (drop 1 choice) choice)
    by_loose true = behind_next choice bytes
    by_loose false = bytes

-- and behind the one that decides whether the file is there
behind_chosen_bytes : (miss : Bool) (gs : List Generation) (choice : List ℕ) → AreBytes choice
    → AreBytes (behind_chosen miss gs choice)
behind_chosen_bytes miss [] choice bytes = bytes
behind_chosen_bytes false (last ∷ more) choice bytes = bytes
behind_chosen_bytes true (last ∷ more) choice bytes = behind_next choice bytes

-- and behind the open ones
behind_filled_bytes : (known : List (Option ℕ)) (choice : List ℕ) → AreBytes choice
    → AreBytes (behind_filled known choice)
behind_filled_bytes [] choice bytes = bytes
behind_filled_bytes (Some b ∷ known) choice bytes = behind_filled_bytes known choice bytes
behind_filled_bytes (None ∷ known) choice bytes =
    behind_filled_bytes known (drop 1 choice) (behind_next choice bytes)

-- and behind a whole file
behind_left_bytes : (o : Option Generation) (choice : List ℕ) → AreBytes choice
    → AreBytes (behind_left o choice)
behind_left_bytes None choice bytes = bytes
behind_left_bytes (Some g) choice bytes =
    behind_filled_bytes (laid g choice) (behind_length g choice)
    (behind_length_bytes g choice bytes)

-- the choice that is left for a file are bytes
pub choice_bytes : (files : ℕ → Track) (f : ℕ) (choice : List ℕ) → AreBytes choice
    → AreBytes (choice_at files f choice)
choice_bytes files zero choice bytes = bytes
choice_bytes files (suc f) choice bytes =
    let s : Track = files f in
    let here : List ℕ = choice_at files f choice in
    behind_left_bytes (chosen (may_miss s.fates) (generations s) here)
    (behind_chosen (may_miss s.fates) (generations s) here)
    (behind_chosen_bytes (may_miss s.fates) (generations s) here
    (choice_bytes files f choice bytes))

-- the file that is left, whatever the choice is
file_left : (fates : Fates) (o : Option Generation) (choice : List ℕ) → AreBytes choice
    → LeftOf fates o
    → Fits fates (left_file o choice)
file_left fates None choice bytes left = left
file_left fates (Some g) choice bytes left =
    left (filled (laid g choice) (behind_length g choice))
    (filled_fits g.shape.known (past_end g choice) g.shape.loose (behind_length g choice)
    (behind_length_bytes g choice bytes) (past_none g.shape.loose _ 0))

-- the file that a choice picks
pub picked_fits : (s : Track) (choice : List ℕ) → AreBytes choice → Fits s.fates (picked s choice)
picked_fits s choice bytes =
    let removed = removed_ones s.fates.others s.lengths in
    let size = length (bytes_or_none s.bytes) in
    file_left s.fates (chosen (may_miss s.fates) (generations s) choice)
    (behind_chosen (may_miss s.fates) (generations s) choice)
    (behind_chosen_bytes (may_miss s.fates) (generations s) choice bytes)
    (chosen_left s.fates (may_miss s.fates) (generations s) choice
    (missing_left s.fates.last s.fates.others)
    (none_left s.fates.last s.fates.others size removed)
    (generations_left s.fates.last s.fates.others size removed
    (removed_left s.fates.others s.lengths)))
