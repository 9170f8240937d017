-- What a call of a disk in memory leaves, as its user sees it.
use Rattle.std.proofs.Common.{◌≡◌, ◌⊎◌, inl, inr, ◌≢◌, ◌<◌, ◌≤◌, ◌+◌, ◌-◌, ◌^◌, ℕ, Bool, true, false, List, [], ◌∷◌, ◌++◌, Option, Some, None, refl, sym, ◌∙◌, ap, subst, arith}
use Rattle.std.specs.List.{All}
use Rattle.alt_base.specs.Counts.{Rose, next_moment}
use Rattle.alt_disk.specs.Fates.{Fates, Fits}
use Rattle.alt_disk.specs.Disk.{DiskState, Tick, Silent, ReadCall, Synced, Same, now}
use Rattle.alt_disk.specs.Memory.{Track, nothing, track_after, replay, at_moment, Timed, fates_after}
use Rattle.alt_disk.specs.MemoryState.{memory_state}
use Rattle.alt_disk.specs.Acted.{Acted, ActedSome, CountsAs, PushedSome, KeptSome}
use Rattle.alt_disk.specs.Honest.{until-all}
use Rattle.alt_disk.specs.declared.made.Deed.{Deed}
use Rattle.alt_disk.specs.declared.made.Deed.TheVariants.{Sync}
use Rattle.alt_disk.specs.declared.made.Made.{Made}
use Rattle.std.proofs.lemmas.Bool.{false≢true}
use Rattle.alt_disk.proofs.Calls.{same_on}
use Rattle.alt_disk.proofs.Shapes.{synced_fits}
use Rattle.alt_disk.proofs.Replay.{replay-push, call-own, call-other, until-push, timed_later, timed_push}

-- below the last moment the next one is one more
next_below : (m n : ℕ) → m < 2 ^ 64 - 1 → n ≡ m + 1 → n ≡ next_moment m
next_below m n below is = grind arith

-- the last moment stays
next_last : (m n : ℕ) → 2 ^ 64 - 1 ≤ m → n ≡ m → n ≡ next_moment m
next_last m n last is = grind arith

-- what a stop now may leave is what all calls leave
pub now_whole : (calls : List Made) (m f : ℕ) → All (Timed m) calls
    → at_moment m f calls ≡ replay f nothing calls
now_whole calls m f timed = ap (λ (l : List Made). replay f nothing l) (until-all m calls timed)

-- the list stays, whatever the moments
pub same_list : (calls : List Made) (m n fa fb ra rb : ℕ) → All (Timed m) calls → m ≤ n
    → Same (memory_state calls m fa ra) (memory_state calls n fb rb)
same_list calls m n fa fb ra rb timed le = record {
  file = λ g. refl;
  fates = λ g. ap (λ (s : Track). s.fates) (now_whole calls n g (timed_later m n calls timed le)
      ∙ sym (now_whole calls m g timed));
}

-- a call that keeps nothing
pub silent_call : (calls new : List Made) (m n fa fb ra rb : ℕ) (ok : Bool) → All (Timed m) calls
    → new ≡ calls → m < 2 ^ 64 - 1 → n ≡ m + 1 → rb ≡ ra → fa ≤ fb → (ok ≡ false → Rose fa fb)
    → (ok ≡ true → fb ≡ fa) → Silent (memory_state calls m fa ra) (memory_state new n fb rb) ok
silent_call calls new m n fa fb ra rb ok timed stays below next reads later rose well =
    subst (λ (l : List Made). Silent (memory_state calls m fa ra) (memory_state l n fb rb) ok)
    (sym stays)
    (record {
      tick = record {
        call = record {
          goes = record {
            tells = refl;
            honest = refl;
            beside = refl;
            anchors = refl;
            later =
                omega arith;
            faults = later;
            past = λ t f le. refl;
          };
          step = omega (arith, next_below m n below next);
          cause = rose;
          well = well;
        };
        moment = next_below m n below next;
        reads = reads;
        ended = λ ends. absurd (omega (arith, ends, below));
      };
      same = same_list calls m n fa fb ra rb timed (omega (arith, next));
    })

-- a call at the last moment
pub last_call : (calls new : List Made) (m n fa fb ra rb : ℕ) → All (Timed m) calls → new ≡ calls
    → 2 ^ 64 - 1 ≤ m → n ≡ m → rb ≡ ra → fa ≤ fb → Rose fa fb
    → Silent (memory_state calls m fa ra) (memory_state new n fb rb) false
last_call calls new m n fa fb ra rb timed stays last same reads later rose =
    subst (λ (l : List Made). Silent (memory_state calls m fa ra) (memory_state l n fb rb) false)
    (sym stays)
    (record {
      tick = record {
        call = record {
          goes = record {
            tells = refl;
            honest = refl;
            beside = refl;
            anchors = refl;
            later =
                omega arith;
            faults = later;
            past = λ t f le. refl;
          };
          step = omega (arith, next_last m n last same);
          cause = λ _. rose;
          well = λ ok. absurd (false≢true ok);
        };
        moment = next_last m n last same;
        reads = reads;
        ended = λ _. (refl, same_list calls m n fa fb ra rb timed (omega (arith, same)));
      };
      same = same_list calls m n fa fb ra rb timed (omega (arith, same));
    })

module _ (calls : List Made) (m fa fb ra rb : ℕ) (made : Made) (timed : All (Timed m) calls)
    (at_end : made.time ≡ m + 1) where
  -- what was made before, with this call behind it
  abbrev pushed : List Made
  pushed = calls ++ made ∷ []

  all_timed : All (Timed (m + 1)) pushed
  all_timed = timed_push (m + 1) calls made (timed_later m (m + 1) calls timed (omega arith))
      (omega (arith, at_end))

  -- the call's file
  own : replay made.file nothing pushed ≡ track_after made.deed (replay made.file nothing calls)
  own = replay-push made.file nothing calls made ∙ call-own made _

  -- the others
  other_file : (g : ℕ) → g ≢ made.file → replay g nothing pushed ≡ replay g nothing calls
  other_file g other = replay-push g nothing calls made ∙ call-other g made _ other

  now_pushed : (g : ℕ) → at_moment (m + 1) g pushed ≡ replay g nothing pushed
  now_pushed g = now_whole pushed (m + 1) g all_timed

  -- a call that was kept
  pub acted_call : Acted (memory_state calls m fa ra)
      (memory_state pushed (m + 1) fb rb) made.file made.deed
  acted_call = record {
    others = record {
      file = λ g other. ap (λ (s : Track). s.bytes) (other_file g other);
      fates = λ g other. ap (λ (s : Track). s.fates)
          (now_pushed g ∙ other_file g other ∙ sym (now_whole calls m g timed));
    };
    file = ap (λ (s : Track). s.bytes) own;
    fates = ap (λ (s : Track). s.fates) (now_pushed made.file ∙ own)
        ∙ ap (λ (s : Track). fates_after made.deed (replay made.file nothing calls).bytes s.fates)
        (sym (now_whole calls m made.file timed));
  }

  -- it leaves the images of the past
  pub tick_call : (ok : Bool) → m < 2 ^ 64 - 1 → rb ≡ ra → fa ≤ fb → (ok ≡ false → Rose fa fb)
      → (ok ≡ true → fb ≡ fa) → Tick (memory_state calls m fa ra)
      (memory_state pushed (m + 1) fb rb) ok
  tick_call ok below reads later rose well = record {
    call = record {
      goes = record {
        tells = refl;
        honest = refl;
        beside = refl;
        anchors = refl;
        later = omega arith;
        faults = later;
        past = λ t f le. ap (λ (l : List Made). (replay f nothing l).fates)
            (until-push t calls made (omega (arith, le, at_end)));
      };
      step = omega (arith, next_below m (m + 1) below refl);
      cause = rose;
      well = well;
    };
    moment = next_below m (m + 1) below refl;
    reads = reads;
    ended = λ ends. absurd (omega (arith, ends, below));
  }

-- a call that was kept after its moment was taken
pub acted_some : (calls mid new : List Made) (m mid_m n fa fb ra rb f : ℕ) (deed : Option Deed)
    → All (Timed m) calls → mid ≡ calls → mid_m ≡ m + 1 → n ≡ mid_m
    → PushedSome mid new mid_m f deed → ActedSome (memory_state calls m fa ra)
    (memory_state new n fb rb) f deed
acted_some calls mid new m mid_m n fa fb ra rb f None timed same_calls same_m same_n pushed =
    absurd pushed
acted_some calls mid new m mid_m n fa fb ra rb f (Some deed) timed same_calls same_m same_n pushed =
    let made : Made = record { time = m + 1; file = f; deed = deed } in
    let whole : new ≡ calls ++ made ∷ [] = pushed
    ∙ (λ i. same_calls i ++ record { time = same_m i; file = f; deed = deed } ∷ []) in
    let moment : n ≡ m + 1 = same_n ∙ same_m in
    subst (λ (l : List Made). Acted (memory_state calls m fa ra) (memory_state l n fb rb) f deed)
    (sym whole)
    (subst (λ (k : ℕ). Acted (memory_state calls m fa ra)
    (memory_state (calls ++ made ∷ []) k fb rb) f deed) (sym moment)
    (acted_call calls m fa fb ra rb made timed refl))

-- and its moment
pub tick_some : (calls mid new : List Made) (m mid_m n fa fb ra rb f : ℕ) (deed : Option Deed)
    (ok : Bool) → All (Timed m) calls → mid ≡ calls → mid_m ≡ m + 1 → n ≡ mid_m
    → PushedSome mid new mid_m f deed → m < 2 ^ 64 - 1 → rb ≡ ra → fa ≤ fb
    → (ok ≡ false → Rose fa fb)
    → (ok ≡ true → fb ≡ fa) → Tick (memory_state calls m fa ra) (memory_state new n fb rb) ok
tick_some calls mid new m mid_m n fa fb ra rb f None ok timed same_calls same_m same_n pushed below
    reads later rose well = absurd pushed
tick_some calls mid new m mid_m n fa fb ra rb f
    (Some deed) ok timed same_calls same_m same_n pushed below reads later rose well =
    let made : Made = record { time = m + 1; file = f; deed = deed } in
    let whole : new ≡ calls ++ made ∷ [] = pushed
    ∙ (λ i. same_calls i ++ record { time = same_m i; file = f; deed = deed } ∷ []) in
    let moment : n ≡ m + 1 = same_n ∙ same_m in
    subst (λ (l : List Made). Tick (memory_state calls m fa ra) (memory_state l n fb rb) ok)
    (sym whole)
    (subst (λ (k : ℕ). Tick (memory_state calls m fa ra)
    (memory_state (calls ++ made ∷ []) k fb rb) ok) (sym moment)
    (tick_call calls m fa fb ra rb made timed refl ok below reads later rose well))

-- a fault behind a call that was kept leaves it
pub acted_fault : (a b c : DiskState) (f : ℕ) (deed : Option Deed) → ActedSome a b f deed → Same b c
    → ActedSome a c f deed
acted_fault a b c f None acted same = acted
acted_fault a b c f (Some deed) acted same = record {
  others = record {
    file = λ g other. same.file g ∙ acted.others.file g other;
    fates =
        λ g other. same.fates g ∙ acted.others.fates g other;
  };
  file = same.file f ∙ acted.file;
  fates = same.fates f ∙ acted.fates;
}

-- a call that failed by the list, and counts as what was kept
pub counts_some : (calls mid new : List Made) (m mid_m n fa fb ra rb f : ℕ) (deed : Option Deed)
    → All (Timed m) calls → mid ≡ calls → mid_m ≡ m + 1 → n ≡ mid_m → KeptSome mid new mid_m f deed
    → CountsAs (memory_state calls m fa ra) (memory_state new n fb rb) f deed
counts_some calls mid new m mid_m n fa fb ra rb f None timed same_calls same_m same_n kept =
    let later : m ≤ n = omega (arith, same_m, same_n) in
    subst (λ (l : List Made). Same (memory_state calls m fa ra) (memory_state l n fb rb))
    (sym (kept ∙ same_calls)) (same_list calls m n fa fb ra rb timed later)
counts_some calls mid new m mid_m n fa fb ra rb f (Some deed) timed same_calls same_m same_n kept =
    acted_some calls mid new m mid_m n fa fb ra rb f (Some deed) timed same_calls same_m same_n kept

-- a fault behind it leaves that
pub counts_fault : (a b c : DiskState) (f : ℕ) (deed : Option Deed) → CountsAs a b f deed → Same b c
    → CountsAs a c f deed
counts_fault a b c f None counts same = same_on a b c counts same
counts_fault a b c f (Some deed) counts same = acted_fault a b c f (Some deed) counts same

-- it counts as nothing or as something
pub counts_either : (a b : DiskState) (f : ℕ) (deed : Option Deed) → CountsAs a b f deed
    → Same a b ⊎ ActedSome a b f deed
counts_either a b f None counts = inl counts
counts_either a b f (Some deed) counts = inr counts

-- a sync that was kept
pub acted_synced : (a b : DiskState) (f : ℕ) → Fits (now a f) (a.file f) → Acted a b f Sync
    → Synced a b f true
acted_synced a b f reads acted = record {
  others = acted.others;
  narrows = λ file fits. narrowed (a.file f) refl file
      (subst (λ (s : Fates). Fits s file) acted.fates fits);
  there = λ bytes is_ok is_there. acted.fates
      ∙ ap (λ (file : Option (List ℕ)). fates_after Sync file (now a f)) is_there;
  failed = λ fails. absurd (false≢true (sym fails));
}
  where
    narrowed : (there : Option (List ℕ)) → a.file f ≡ there → (file : Option (List ℕ))
        → Fits (fates_after Sync there (now a f)) file → Fits (now a f) file
    narrowed None is file fits = fits
    narrowed (Some bytes) is file fits = subst (λ (x : Option (List ℕ)). Fits (now a f) x)
        (is ∙ sym (synced_fits bytes file fits)) reads

-- one that failed
pub same_synced : (a b : DiskState) (f : ℕ) → Same a b → Synced a b f false
same_synced a b f same = record {
  others = record { file = λ g other. same.file g; fates = λ g other. same.fates g };
  narrows = λ file fits. subst (λ (s : Fates). Fits s file) (same.fates f) fits;
  there = λ bytes is_ok is_there. absurd (false≢true is_ok);
  failed = λ fails. same.fates f;
}

-- a read is a call that leaves the files and may count itself
pub read_call : (a b c : DiskState) (reads f at most : ℕ) (ok : Bool)
    → b ≡ record a { reads = reads }
    → a.reads ≤ reads → reads ≤ a.reads + 1 → (2 ^ 64 - 1 ≤ a.moment → reads ≡ a.reads)
    → Silent b c ok
    → ReadCall a c f at most ok
read_call a b c reads f at most ok counted later step last silent =
    let call : Silent (record a { reads = reads }) c ok =
    subst (λ (s : DiskState). Silent s c ok) counted silent in
    record {
      call = record {
        goes = record {
          tells = call.tick.call.goes.tells;
          honest = call.tick.call.goes.honest;
          beside = call.tick.call.goes.beside;
          anchors = call.tick.call.goes.anchors;
          later = call.tick.call.goes.later;
          faults = call.tick.call.goes.faults;
          past = call.tick.call.goes.past;
        };
        step = call.tick.call.step;
        cause = call.tick.call.cause;
        well = call.tick.call.well;
      };
      reads = (omega (arith, call.tick.reads, later), omega (arith, call.tick.reads, step));
      ended = λ ends. (call.tick.reads ∙ last ends, λ _. (call.tick.ended ends).0);
    }

-- and leaves the files
pub read_same : (a b c : DiskState) (reads : ℕ) (ok : Bool) → b ≡ record a { reads = reads }
    → Silent b c ok → Same a c
read_same a b c reads ok counted silent =
    let call : Silent (record a { reads = reads }) c ok =
    subst (λ (s : DiskState). Silent s c ok) counted silent in
    record { file = call.same.file; fates = call.same.fates }
