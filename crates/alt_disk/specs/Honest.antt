-- A disk in memory reads as one of its images.
use Rattle.std.specs.Prelude.{◌≡◌, ◌<◌, ◌⊎◌, ◌+◌, ◌==◌, nat_le, cond, ℕ, zero, suc, Bool, true, false, List, [], ◌∷◌, ◌++◌}
use Rattle.std.specs.Prelude.{length, take, drop, map, Option, Some, None, refl}
use Rattle.std.proofs.Common.{inl, inr, subst, sym, ap, ◌∙◌, arith}
use Rattle.std.specs.List.{All, AllByRecursion}
use Rattle.std.proofs.lemmas.List.Elements.{recursion_from_All}
use Rattle.std.proofs.lemmas.Bool.Decides.{nat_tests}
use Rattle.alt_disk.specs.Fates.{Fates, Fits, FitsAny, FitsShape, FitsBytes, FitsBehind, AreBytes, Shape, wrote_shape, opened}
use Rattle.alt_disk.specs.Disk.{overwritten, now}
use Rattle.alt_disk.specs.Memory.{Track, nothing, track_after, after_call, replay, calls_until, at_moment, Timed, WritesBytes, HasBytes}
use Rattle.alt_disk.specs.MemoryState.{state_of}
use Rattle.alt_disk.specs.declared.memory.MemoryDisk.{MemoryDisk}
use Rattle.alt_disk.specs.declared.made.Deed.{Deed}
use Rattle.alt_disk.specs.declared.made.Deed.TheVariants.{Write, WriteFailed, Sync, Remove, RemoveFailed}
use Rattle.alt_disk.specs.declared.made.Made.{Made}

-- the bytes behind some of these
bytes_behind : (n : ℕ) (c : List ℕ) → AreBytes c → AreBytes (drop n c)
bytes_behind zero c bytes = bytes
bytes_behind (suc n) [] bytes = tt
bytes_behind (suc n) (b ∷ c) bytes = bytes_behind n c bytes.1

-- bytes in two parts
bytes_append : (c d : List ℕ) → AreBytes c → AreBytes d → AreBytes (c ++ d)
bytes_append [] d first then = then
bytes_append (b ∷ c) d first then = (first.0, bytes_append c d first.1 then)

-- bytes put in among bytes
bytes_overwritten : (old : List ℕ) (at : ℕ) (new : List ℕ) → AreBytes old → AreBytes new
    → AreBytes (overwritten old at new)
bytes_overwritten old at new were are =
    bytes_append (take at old ++ new) (drop (at + length new) old)
    (bytes_append (take at old) new (front at old were) are)
    (bytes_behind (at + length new) old were)
  where
    front : (n : ℕ) (c : List ℕ) → AreBytes c → AreBytes (take n c)
    front zero c bytes = tt
    front (suc n) [] bytes = tt
    front (suc n) (b ∷ c) bytes = (bytes.0, front n c bytes.1)

-- what fits behind the known bytes are bytes, so it fits a loose end
behind_loose : (loose : Bool) (c : List ℕ) → FitsBehind loose c → AreBytes c
behind_loose true c fits = fits
behind_loose false c fits = subst AreBytes (sym fits) tt

-- what fits a shape fits it with a loose end
loosen : (known : List (Option ℕ)) (loose : Bool) (c : List ℕ) → FitsBytes known loose c
    → FitsBytes known true c
loosen [] loose c fits = behind_loose loose c fits
loosen (k ∷ known) loose [] fits = fits
loosen (k ∷ known) loose (b ∷ c) fits = (fits.0, loosen known loose c fits.1)

-- and with a range opened
opened_fits : (known : List (Option ℕ)) (loose : Bool) (c : List ℕ) (at n : ℕ) → AreBytes c
    → FitsBytes known loose c → FitsBytes (opened at n known) true c
opened_fits [] loose c at n bytes fits = bytes
opened_fits (k ∷ known) loose [] at n bytes fits = absurd fits
opened_fits (k ∷ known) loose (b ∷ c) zero zero bytes fits = (fits.0, loosen known loose c fits.1)
opened_fits (k ∷ known) loose (b ∷ c) zero (suc n) bytes fits =
    (bytes.0, opened_fits known loose c zero n bytes.1 fits.1)
opened_fits (k ∷ known) loose (b ∷ c) (suc at) n bytes fits =
    (fits.0, opened_fits known loose c at n bytes.1 fits.1)

-- bytes put in at the front fit where the front is opened
start_fits : (known : List (Option ℕ)) (loose : Bool) (old new : List ℕ) → AreBytes old
    → AreBytes new
    → FitsBytes known loose old
    → FitsBytes (opened zero (length new) known) true (new ++ drop (length new) old)
start_fits [] loose old new were are fits =
    bytes_append new (drop (length new) old) are (bytes_behind (length new) old were)
start_fits (k ∷ known) loose [] new were are fits = absurd fits
start_fits (k ∷ known) loose (b ∷ old) [] were are fits = loosen (k ∷ known) loose (b ∷ old) fits
start_fits (k ∷ known) loose (b ∷ old) (x ∷ new) were are fits =
    (are.0, start_fits known loose old new were.1 are.1 fits.1)

-- and at any place
overwritten_fits : (known : List (Option ℕ)) (loose : Bool) (old : List ℕ) (at : ℕ) (new : List ℕ)
    → AreBytes old → AreBytes new → FitsBytes known loose old
    → FitsBytes (opened at (length new) known) true (overwritten old at new)
overwritten_fits [] loose old at new were are fits = bytes_overwritten old at new were are
overwritten_fits (k ∷ known) loose [] at new were are fits = absurd fits
overwritten_fits (k ∷ known) loose (b ∷ old) zero new were are fits =
    let P : ℕ → Type 0 = λ n. FitsBytes (opened zero (length new) (k ∷ known)) true
    (new ++ drop n (b ∷ old)) in
    let same : length new ≡ 0 + length new = omega arith in
    subst P same (start_fits (k ∷ known) loose (b ∷ old) new were are fits)
overwritten_fits (k ∷ known) loose (b ∷ old) (suc at) new were are fits =
    let P : ℕ → Type 0 = λ n. FitsBytes (k ∷ opened at (length new) known) true
    (b ∷ (take at old ++ new ++ drop n (b ∷ old))) in
    let same : suc (at + length new) ≡ suc at + length new = omega arith in
    subst P same (fits.0, overwritten_fits known loose old at new were.1 are fits.1)

-- a stop may leave no file: none was made, or nothing of it is known since a write of a missing file failed
abbrev AgreesMissing : Option Shape → List (Option Shape) → Type 0
AgreesMissing None others = Unit {0}
AgreesMissing (Some s) others = (s ≡ record { known = []; loose = true }) × FitsAny others None

-- a stop may leave the file as it reads: where it is there, it as last made
abbrev Agrees : Option (List ℕ) → Fates → Type 0
Agrees None fates = AgreesMissing fates.last fates.others
Agrees (Some bytes) fates = AreBytes bytes × FitsShape fates.last (Some bytes)

-- a write of what is there
shape_wrote : (last : Option Shape) (others : List (Option Shape)) (old : List ℕ) (at : ℕ)
    (new : List ℕ)
    → AreBytes old → AreBytes new → FitsShape last (Some old)
    → FitsShape (wrote_shape at (length new) last others).last (Some (overwritten old at new))
shape_wrote None others old at new were are fits = absurd fits
shape_wrote (Some s) others old at new were are fits =
    overwritten_fits s.known s.loose old at new were are fits

-- a write of it that failed
shape_failed : (last : Option Shape) (others : List (Option Shape)) (old : List ℕ) (at n : ℕ)
    → AreBytes old → FitsShape last (Some old)
    → FitsShape (wrote_shape at n last others).last (Some old)
shape_failed None others old at n bytes fits = absurd fits
shape_failed (Some s) others old at n bytes fits = opened_fits s.known s.loose old at n bytes fits

-- a write of a missing file
made_wrote : (last : Option Shape) (others : List (Option Shape)) (at n : ℕ) (new : List ℕ)
    → AreBytes new → AgreesMissing last others
    → FitsShape (wrote_shape at n last others).last (Some new)
made_wrote None others at n new bytes agrees = bytes
made_wrote (Some s) others at n new bytes agrees =
    subst (λ (x : Shape). FitsBytes (opened at n x.known) true new) (sym agrees.0) bytes

-- one that failed
made_failed : (last : Option Shape) (others : List (Option Shape)) (at n : ℕ)
    → AgreesMissing last others
    → AgreesMissing (wrote_shape at n last others).last (wrote_shape at n last others).others
made_failed None others at n agrees = (refl, inl tt)
made_failed (Some s) others at n agrees =
    (ap (λ (x : Shape). record { known = opened at n x.known; loose = true }) agrees.0, agrees.1)

-- synced bytes fit themselves
all_known : (bytes : List ℕ) → FitsBytes (map (λ b. Some b) bytes) false bytes
all_known [] = refl
all_known (b ∷ bytes) = (refl, all_known bytes)

-- each call that wrote bytes, if anything, keeps it
agrees_after : (deed : Deed) (bytes : Option (List ℕ)) (fates : Fates) (lengths : List ℕ)
    → WritesBytes deed → Agrees bytes fates
    → Agrees (track_after deed (record { bytes = bytes; fates = fates; lengths = lengths })).bytes
    (track_after deed (record { bytes = bytes; fates = fates; lengths = lengths })).fates
agrees_after (Write at new) None fates lengths wrote agrees =
    let are : AreBytes new.items = recursion_from_All (λ (b : ℕ). b < 256) new.items wrote in
    let none : List ℕ = [] in
    let bytes : AreBytes (overwritten none at new.items) =
    bytes_overwritten none at new.items tt are in (
      bytes,
      made_wrote fates.last fates.others at (length new.items)
          (overwritten [] at new.items) bytes agrees,
    )
agrees_after (Write at new) (Some old) fates lengths wrote agrees =
    let are : AreBytes new.items = recursion_from_All (λ (b : ℕ). b < 256) new.items wrote in
    let bytes : AreBytes (overwritten old at new.items) =
    bytes_overwritten old at new.items agrees.0 are in
    (bytes, shape_wrote fates.last fates.others old at new.items agrees.0 are agrees.1)
agrees_after (WriteFailed at count) None fates lengths are agrees =
    made_failed fates.last fates.others at count agrees
agrees_after (WriteFailed at count) (Some old) fates lengths are agrees =
    (agrees.0, shape_failed fates.last fates.others old at count agrees.0 agrees.1)
agrees_after Sync None fates lengths are agrees = agrees
agrees_after Sync (Some old) fates lengths are agrees = (agrees.0, all_known old)
agrees_after Remove None fates lengths are agrees = agrees
agrees_after Remove (Some old) fates lengths are agrees = tt
agrees_after RemoveFailed None fates lengths are agrees = agrees
agrees_after RemoveFailed (Some old) fates lengths are agrees = agrees

-- whether it is of this file or of another
agrees_call : (f : ℕ) (made : Made) (s : Track) → HasBytes made → Agrees s.bytes s.fates
    → Agrees (after_call f made s).bytes (after_call f made s).fates
agrees_call f made s are agrees = if_agrees (made.file == f)
  where
    if_agrees : (b : Bool)
        → Agrees (cond b (track_after made.deed s) s).bytes (cond b (track_after made.deed s) s).fates
    if_agrees true = agrees_after made.deed s.bytes s.fates s.lengths are agrees
    if_agrees false = agrees

-- and so do calls in a row
agrees_replay : (f : ℕ) (s : Track) (calls : List Made) → AllByRecursion HasBytes calls
    → Agrees s.bytes s.fates → Agrees (replay f s calls).bytes (replay f s calls).fates
agrees_replay f s [] are agrees = agrees
agrees_replay f s (made ∷ calls) are agrees =
    agrees_replay f (after_call f made s) calls are.1 (agrees_call f made s are.0 agrees)

-- what is as the file reads, a stop may leave
agrees_fits : (bytes : Option (List ℕ)) (fates : Fates) → Agrees bytes fates → Fits fates bytes
agrees_fits None fates agrees = missing_fits fates.last fates.others agrees
  where
    missing_fits : (last : Option Shape) (others : List (Option Shape)) → AgreesMissing last others
        → FitsShape last None ⊎ FitsAny others None
    missing_fits None others agrees = inl tt
    missing_fits (Some s) others agrees = inr agrees.1
agrees_fits (Some bytes) fates agrees = inl agrees.1

-- what the calls give is what a stop after them may leave
pub replay_fits : (f : ℕ) (calls : List Made) → AllByRecursion HasBytes calls
    → Fits (replay f nothing calls).fates (replay f nothing calls).bytes
replay_fits f calls are = agrees_fits _ _ (agrees_replay f nothing calls are tt)

-- a call that shows by a moment is kept
one_shows : (t : ℕ) (made : Made) (rest : List Made) → Timed t made
    → (cond (nat_le made.time t) (made ∷ rest) rest) ≡ made ∷ rest
one_shows t made rest timed = grind (arith, nat_tests)

-- where each does, all are
all_show : (t : ℕ) (calls : List Made) → AllByRecursion (Timed t) calls → calls_until t calls ≡ calls
all_show t [] timed = refl
all_show t (made ∷ calls) timed = one_shows t made (calls_until t calls) timed.0
    ∙ ap (λ (l : List Made). made ∷ l) (all_show t calls timed.1)

-- where all calls show, the moment is the last
pub until-all : (t : ℕ) (calls : List Made) → All (Timed t) calls → calls_until t calls ≡ calls
until-all t calls timed = all_show t calls (recursion_from_All (Timed t) calls timed)

-- so reads give what a stop now may leave
reads_fit : (f t : ℕ) (calls : List Made) → All (Timed t) calls → All HasBytes calls
    → Fits (at_moment t f calls).fates (replay f nothing calls).bytes
reads_fit f t calls timed are =
    subst (λ (l : List Made). Fits (replay f nothing l).fates (replay f nothing calls).bytes)
    (sym (until-all t calls timed)) (replay_fits f calls (recursion_from_All HasBytes calls are))

-- for a disk in memory
pub reads_as_image_of : (d : MemoryDisk) (f : ℕ) → Fits (now (state_of d) f) ((state_of d).file f)
reads_as_image_of d f = reads_fit f d.moment d.history.calls.items d.timed d.history.written
