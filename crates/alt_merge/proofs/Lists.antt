-- Lists of sources, and what each has left, where one of them was called.
use Rattle.std.proofs.Common.{◌≡◌, ◌<◌, ◌||◌, ℕ, zero, suc, Bool, IsTrue, List, [], ◌∷◌, length, get_or, set, drop, map, zip, Option, refl, sym, subst, ap, ◌∙◌, arith}
use Rattle.std.specs.FinMap.{empty}
use Rattle.alt_disk.specs.Disk.{DiskState}
use Rattle.alt_cells.specs.declared.row.RowCells.{RowCells}
use Rattle.alt_cells.specs.declared.source.SourceFault.{SourceFault}
use Rattle.alt_cells.specs.declared.source.SourceFault.TheVariants.{Damaged, Failed, NoMemory}
use Rattle.alt_cells.specs.Walks.{RowMap, RowList, HasCause, KeepsSource, Fails, SameFiles}
use Rattle.alt_merge.specs.declared.head.Head.{Head}
use Rattle.alt_merge.specs.MergeLaws.{or_left, or_right}
use Rattle.alt_merge.specs.Merges.{Each2, InTurn, with_head, with_heads, any_reads, HoldsEach, LeftWith, IsFilled, AllFilled, IsFilledBy, AreFilledBy}

module _ {A B : Type 0} where
  -- what holds of each two holds of those at a place
  pub each2_at : (P : A → B → Type 0) (xs : List A) (ys : List B) → Each2 P xs ys → (i : ℕ)
      → i < length xs → (d : A) (e : B) → P (get_or xs i d) (get_or ys i e)
  each2_at P [] [] each i lt d e = absurd (omega arith)
  each2_at P [] (y ∷ ys) each i lt d e = absurd each
  each2_at P (x ∷ xs) [] each i lt d e = absurd each
  each2_at P (x ∷ xs) (y ∷ ys) each zero lt d e = each.0
  each2_at P (x ∷ xs) (y ∷ ys) each (suc i) lt d e = each2_at P xs ys each.1 i (omega arith) d e

  -- it stays where both at a place change to what it holds of
  pub each2_set : (P : A → B → Type 0) (xs : List A) (ys : List B) → Each2 P xs ys
      → (i : ℕ) (x : A) (y : B) → P x y → Each2 P (set xs i x) (set ys i y)
  each2_set P [] [] each i x y p = each
  each2_set P [] (y' ∷ ys) each i x y p = absurd each
  each2_set P (x' ∷ xs) [] each i x y p = absurd each
  each2_set P (x' ∷ xs) (y' ∷ ys) each zero x y p = (p, each.1)
  each2_set P (x' ∷ xs) (y' ∷ ys) each (suc i) x y p = (each.0, each2_set P xs ys each.1 i x y p)

  -- it stays where one at a place changes to what it holds of with the other
  pub each2_one : (P : A → B → Type 0) (xs : List A) (ys : List B) → Each2 P xs ys
      → (i : ℕ) (x : A) (e : B) → i < length xs → P x (get_or ys i e) → Each2 P (set xs i x) ys
  each2_one P [] [] each i x e lt p = each
  each2_one P [] (y' ∷ ys) each i x e lt p = absurd each
  each2_one P (x' ∷ xs) [] each i x e lt p = absurd each
  each2_one P (x' ∷ xs) (y' ∷ ys) each zero x e lt p = (p, each.1)
  each2_one P (x' ∷ xs) (y' ∷ ys) each (suc i) x e lt p =
      (each.0, each2_one P xs ys each.1 i x e (omega arith) p)

  -- what follows of two follows of each two
  pub each2_map : (P Q : A → B → Type 0) → ((x : A) (y : B) → P x y → Q x y)
      → (xs : List A) (ys : List B) → Each2 P xs ys → Each2 Q xs ys
  each2_map P Q f [] [] each = each
  each2_map P Q f [] (y ∷ ys) each = each
  each2_map P Q f (x ∷ xs) [] each = each
  each2_map P Q f (x ∷ xs) (y ∷ ys) each = (f x y each.0, each2_map P Q f xs ys each.1)

  -- lists each two of which hold are as long as each other
  pub each2_length : (P : A → B → Type 0) (xs : List A) (ys : List B) → Each2 P xs ys
      → length xs ≡ length ys
  each2_length P [] [] each = refl
  each2_length P [] (y ∷ ys) each = absurd each
  each2_length P (x ∷ xs) [] each = absurd each
  each2_length P (x ∷ xs) (y ∷ ys) each = ap suc (each2_length P xs ys each.1)

-- a call on one source of a list
module _ {S : Type 0} (Holds : DiskState → S → RowMap → Type 0) (reads_of : S → ℕ → Bool) where
  any_reads-set : (xs : List S) (i : ℕ) (d x : S) → i < length xs
      → reads_of x ≡ reads_of (get_or xs i d)
      → any_reads reads_of (set xs i x) ≡ any_reads reads_of xs
  any_reads-set [] i d x lt e = refl
  any_reads-set (y ∷ xs) zero d x lt e = λ j f. e j f || any_reads reads_of xs f
  any_reads-set (y ∷ xs) (suc i) d x lt e = let more = any_reads-set xs i d x (omega arith) e in
      λ j f. reads_of y f || more j f

  module _ (holds_on : (old new : DiskState) (x : S) (rows : RowMap)
      → SameFiles (reads_of x) old new → Holds old x rows → Holds new x rows) where
    pub keeps_set : (a b : DiskState) (xs : List S) (i : ℕ) (d x : S) → i < length xs
        → KeepsSource Holds reads_of a b (get_or xs i d) x
        → KeepsSource (HoldsEach Holds) (any_reads reads_of) a b xs (set xs i x)
    keeps_set a b xs i d x lt k = record {
      holds = λ t maps h. each2_one (Holds b) xs maps
          (each2_map (Holds a) (Holds b) (λ y m. holds_on a b y m (λ f r. (k.quiet t).file f)) xs
          maps h) i x empty lt
          (k.holds t (get_or maps i empty) (each2_at (Holds a) xs maps h i lt d empty));
      reads = any_reads-set xs i d x lt k.reads;
      goes = k.goes;
      quiet = k.quiet;
    }

  -- a file that one source reads is one of all
  any_at : (xs : List S) (i : ℕ) (d : S) (f : ℕ) → i < length xs
      → IsTrue (reads_of (get_or xs i d) f) → IsTrue (any_reads reads_of xs f)
  any_at [] i d f lt r = absurd (omega arith)
  any_at (y ∷ xs) zero d f lt r = or_left (reads_of y f) (any_reads reads_of xs f) r
  any_at (y ∷ xs) (suc i) d f lt r = or_right (reads_of y f) (any_reads reads_of xs f)
      (any_at xs i d f (omega arith) r)

  -- so the cause of a fault of one source is one of all
  cause_at : (a b : DiskState) (xs : List S) (i : ℕ) (d : S) (fault : SourceFault) → i < length xs
      → HasCause (reads_of (get_or xs i d)) a b fault → HasCause (any_reads reads_of xs) a b fault
  cause_at a b xs i d (Damaged f at) lt cause = any_at xs i d f lt cause
  cause_at a b xs i d Failed lt cause = cause
  cause_at a b xs i d NoMemory lt cause = tt

  -- where one source fails, all of them together fail so
  pub fails_at : (a b : DiskState) (xs : List S) (i : ℕ) (d : S) (fault : SourceFault)
      → i < length xs → Fails Holds reads_of a b (get_or xs i d) fault
      → Fails (HoldsEach Holds) (any_reads reads_of) a b xs fault
  fails_at a b xs i d fault lt fails = record {
    cause = cause_at a b xs i d fault lt fails.cause;
    sound = λ tells maps h. fails.sound tells (get_or maps i empty)
        (each2_at (Holds a) xs maps h i lt d empty);
  }

-- where a head and what is behind it change and their rows don't, all rows stay
pub with_heads-set : (heads : List Head) (tails : List RowList) (i : ℕ) (d h : Head) (t : RowList)
    → with_head h t ≡ with_head (get_or heads i d) (get_or tails i [])
    → with_heads (set heads i h) (set tails i t) ≡ with_heads heads tails
with_heads-set [] tails i d h t e = refl
with_heads-set (x ∷ heads) [] zero d h t e = refl
with_heads-set (x ∷ heads) [] (suc i) d h t e = refl
with_heads-set (x ∷ heads) (y ∷ tails) zero d h t e = ap (λ l. l ∷ with_heads heads tails) e
with_heads-set (x ∷ heads) (y ∷ tails) (suc i) d h t e =
    ap (λ l. with_head x y ∷ l) (with_heads-set heads tails i d h t e)

-- where one source is read on and its head put in hand, the same is left
pub left_set : {S : Type 0} (Left0 Left1 : S → RowList → Type 0) (xs : List S) (heads : List Head)
    (lists : List RowList) (i : ℕ) (d x : S) (dh h : Head) → i < length xs
    → ((y : S) (t : RowList) → Left0 y t → Left1 y t)
    → ((tail : RowList) → Left0 (get_or xs i d) tail
    → (rest : RowList) × Left1 x rest × (with_head h rest ≡ with_head (get_or heads i dh) tail))
    → LeftWith Left0 xs heads lists → LeftWith Left1 (set xs i x) (set heads i h) lists
left_set Left0 Left1 xs heads lists i d x dh h lt stay step was =
    let r = step (get_or was.0 i []) (each2_at Left0 xs was.0 was.1 i lt d []) in (
      set was.0 i r.0,
      each2_set Left1 xs was.0
          (each2_map Left0 Left1 stay xs was.0 was.1) i x r.0 r.1,
      with_heads-set heads was.0 i dh h r.0 r.2 ∙ was.2,
    )

-- the heads before a place are filled
abbrev pub FilledTo : ℕ → List Head → Type 0
FilledTo zero heads = Unit {0}
FilledTo (suc n) [] = Unit {0}
FilledTo (suc n) (h ∷ heads) = IsFilled h × FilledTo n heads

-- one more is
pub filled_set : (i : ℕ) (heads : List Head) (h : Head) → FilledTo i heads → IsFilled h
    → FilledTo (suc i) (set heads i h)
filled_set zero [] h f p = tt
filled_set zero (x ∷ heads) h f p = (p, tt)
filled_set (suc i) [] h f p = tt
filled_set (suc i) (x ∷ heads) h f p = (f.0, filled_set i heads h f.1 p)

-- all are
pub filled_all : (heads : List Head) → FilledTo (length heads) heads → AllFilled heads
filled_all [] f = tt
filled_all (x ∷ heads) f = (f.0, filled_all heads f.1)

-- the lists that sources have left after a seek, as far as it has come
abbrev pub EachTo : {A B : Type 0} → (A → B → Type 0) → ℕ → List A → List B → Type 0
EachTo P zero xs ys = Unit {0}
EachTo P (suc n) [] ys = Unit {0}
EachTo P (suc n) (x ∷ xs) [] = Unit {0}
EachTo P (suc n) (x ∷ xs) (y ∷ ys) = P x y × EachTo P n xs ys

-- it has come to one more
pub each_to_set : {A B : Type 0} (P Q : A → B → Type 0) → ((x : A) (y : B) → P x y → Q x y)
    → (i : ℕ) (xs : List A) (ys : List B) (x : A) (e : B) → EachTo P i xs ys → Q x (get_or ys i e)
    → EachTo Q (suc i) (set xs i x) ys
each_to_set P Q f zero [] ys x e each q = tt
each_to_set P Q f zero (x' ∷ xs) [] x e each q = tt
each_to_set P Q f zero (x' ∷ xs) (y ∷ ys) x e each q = (q, tt)
each_to_set P Q f (suc i) [] ys x e each q = tt
each_to_set P Q f (suc i) (x' ∷ xs) [] x e each q = tt
each_to_set P Q f (suc i) (x' ∷ xs) (y ∷ ys) x e each q =
    (f x' y each.0, each_to_set P Q f i xs ys x e each.1 q)

-- it has come to all
pub each_to_all : {A B : Type 0} (P : A → B → Type 0) (xs : List A) (ys : List B)
    → EachTo P (length xs) xs ys → length xs ≡ length ys → Each2 P xs ys
each_to_all P [] [] each e = tt
each_to_all P [] (y ∷ ys) each e = absurd (omega arith)
each_to_all P (x ∷ xs) [] each e = absurd (omega arith)
each_to_all P (x ∷ xs) (y ∷ ys) each e = (each.0, each_to_all P xs ys each.1 (omega arith))

-- an element of a list's images, and their number
pub get_or-map : {A B : Type 0} (f : A → B) (xs : List A) (i : ℕ) (d : A) (e : B) → i < length xs
    → get_or (map f xs) i e ≡ f (get_or xs i d)
get_or-map f [] i d e lt = absurd (omega arith)
get_or-map f (x ∷ xs) zero d e lt = refl
get_or-map f (x ∷ xs) (suc i) d e lt = get_or-map f xs i d e (omega arith)

-- a mapped list has the length of the list
pub length_map : {A B : Type 0} (f : A → B) (xs : List A) → length (map f xs) ≡ length xs
length_map f [] = refl
length_map f (x ∷ xs) = ap suc (length_map f xs)

-- the first so many of these were called, one after the other, and the others are as they were
abbrev pub InTurnTo : {S : Type 0} → (DiskState → DiskState → S → S → Type 0) → ℕ → DiskState
    → DiskState → List S → List S → Type 0
InTurnTo Calls zero old new xs ys = (new ≡ old) × (xs ≡ ys)
InTurnTo Calls (suc n) old new [] ys = ⊥
InTurnTo Calls (suc n) old new (x ∷ xs) [] = ⊥
InTurnTo Calls (suc n) old new (x ∷ xs) (y ∷ ys) =
    (between : DiskState) × Calls old between x y × InTurnTo Calls n between new xs ys

module _ {S : Type 0} (Calls : DiskState → DiskState → S → S → Type 0) where
  -- one more was
  pub turn_set : (i : ℕ) (a b c : DiskState) (xs ys : List S) (d y : S) → i < length ys
      → InTurnTo Calls i a b xs ys → Calls b c (get_or ys i d) y
      → InTurnTo Calls (suc i) a c xs (set ys i y)
  turn_set zero a b c xs [] d y lt to one = absurd (omega arith)
  turn_set zero a b c [] (y' ∷ ys) d y lt to one = absurd (omega (arith, ap length to.1))
  turn_set zero a b c (x ∷ xs) (y' ∷ ys) d y lt to one = (
    c,
    subst (λ s. Calls s c x y) to.0 (subst (λ l. Calls b c (get_or l zero d) y) (sym to.1) one),
    (refl, ap (drop 1) to.1),
  )
  turn_set (suc i) a b c [] ys d y lt to one = absurd to
  turn_set (suc i) a b c (x ∷ xs) [] d y lt to one = absurd to
  turn_set (suc i) a b c (x ∷ xs) (y' ∷ ys) d y lt to one =
      (to.0, to.1, turn_set i to.0 b c xs ys d y (omega arith) to.2 one)

  -- all were
  pub turn_all : (a b : DiskState) (xs ys : List S) → InTurnTo Calls (length ys) a b xs ys
      → InTurn Calls a b xs ys
  turn_all a b [] [] to = to.0
  turn_all a b (x ∷ xs) [] to = absurd (omega (arith, ap length to.1))
  turn_all a b [] (y ∷ ys) to = absurd to
  turn_all a b (x ∷ xs) (y ∷ ys) to = (to.0, to.1, turn_all to.0 b xs ys to.2)

-- ---- sources beside their heads

-- where both lists change at a place, the pair there does
zip_set : {A B : Type 0} (xs : List A) (ys : List B) (i : ℕ) (x : A) (y : B)
    → zip (set xs i x) (set ys i y) ≡ set (zip xs ys) i (x, y)
zip_set [] ys i x y = refl
zip_set (a ∷ xs) [] zero x y = refl
zip_set (a ∷ xs) [] (suc i) x y = refl
zip_set (a ∷ xs) (b ∷ ys) zero x y = refl
zip_set (a ∷ xs) (b ∷ ys) (suc i) x y = ap (λ l. (a, b) ∷ l) (zip_set xs ys i x y)

-- the pair at a place is that of both there
get_or-zip : {A B : Type 0} (xs : List A) (ys : List B) (i : ℕ) (d : A) (e : B) → i < length xs
    → length ys ≡ length xs → get_or (zip xs ys) i (d, e) ≡ (get_or xs i d, get_or ys i e)
get_or-zip [] ys i d e lt same = absurd (omega arith)
get_or-zip (a ∷ xs) [] i d e lt same = absurd (omega (arith, same))
get_or-zip (a ∷ xs) (b ∷ ys) zero d e lt same = refl
get_or-zip (a ∷ xs) (b ∷ ys) (suc i) d e lt same =
    get_or-zip xs ys i d e (omega arith) (omega (arith, same))

-- there are as many pairs
length_zip : {A B : Type 0} (xs : List A) (ys : List B) → length ys ≡ length xs
    → length (zip xs ys) ≡ length xs
length_zip [] ys same = refl
length_zip (a ∷ xs) [] same = absurd (omega (arith, same))
length_zip (a ∷ xs) (b ∷ ys) same = ap suc (length_zip xs ys (omega (arith, same)))

module _ {S : Type 0}
    (Nexts : DiskState → DiskState → S → Option (List ℕ × RowCells) → S → Type 0) where
  -- a source and its head were filled so
  abbrev pub PairFilled : DiskState → DiskState → S × Head → S × Head → Type 0
  PairFilled a b p q = IsFilledBy Nexts a b p.0 p.1 q.0 q.1

  -- one more was
  pub filled_next : (i : ℕ) (a b c : DiskState) (xs ys : List S) (hs gs : List Head) (d y : S)
      (e g : Head) → i < length ys → length gs ≡ length ys
      → InTurnTo PairFilled i a b (zip xs hs) (zip ys gs)
      → IsFilledBy Nexts b c (get_or ys i d) (get_or gs i e) y g
      → InTurnTo PairFilled (suc i) a c (zip xs hs) (zip (set ys i y) (set gs i g))
  filled_next i a b c xs ys hs gs d y e g lt same to one =
      subst (λ l. InTurnTo PairFilled (suc i) a c (zip xs hs) l) (sym (zip_set ys gs i y g))
      (turn_set PairFilled i a b c (zip xs hs) (zip ys gs) (d, e) (y, g)
      (omega (arith, lt, length_zip ys gs same)) to
      (subst (λ p. PairFilled b c p (y, g)) (sym (get_or-zip ys gs i d e lt same)) one))

  -- all were
  pub filled_each : (i : ℕ) (a b : DiskState) (xs ys : List S) (hs gs : List Head)
      → i ≡ length ys → length hs ≡ length xs → length gs ≡ length ys
      → InTurnTo PairFilled i a b (zip xs hs) (zip ys gs) → AreFilledBy Nexts a b xs hs ys gs
  filled_each i a b xs ys hs gs end before after to = record {
    heads_before = before;
    heads_after = after;
    filled = turn_all PairFilled a b (zip xs hs) (zip ys gs)
        (subst (λ n. InTurnTo PairFilled n a b (zip xs hs) (zip ys gs))
        (end ∙ sym (length_zip ys gs after)) to);
  }
