-- What is behind bytes that were read so far decides as the whole does: behind whole lines of a head a section, behind empty lines
-- a head.
use Rattle.std.proofs.Common.{◌≡◌, ◌≢◌, ℕ, suc, List, [], ◌∷◌, ◌++◌, length, take, drop, refl, sym, ap, subst, ◌∙◌, append_assoc, arith, inl, inr}
use Rattle.std.specs.Prelude.{◌⊎◌}
use Rattle.std.proofs.lemmas.Grind.{flat_map-append}
use Rattle.std.proofs.lemmas.List.Elements.{All-nil}
use Rattle.std.proofs.lemmas.List.{length-append, length-drop, take-append-drop, take_all}
use Rattle.std.proofs.Math.Seq.{take-append_seam}
use Rattle.httparse.specs.Grammar.{LineEnd, print_end, print_blank, print_version, print_section, RequestHead, ReadsRequest, HasNoRequest, NeverHasRequest, MayBecomeRequest, ReadsSection, HasNoSection, NeverHasSection, MayBecomeSection}
use Rattle.httparse.specs.Pieces.{Then, Begins, Refutes, Completes, Blank, FieldLines, Section, RequestStart}
use Rattle.httparse.proofs.GrammarLemmas.{request_pieces, request_from_pieces, RequestTree, request_head, request_tree, print_request-append, ReadsSection-append}
use Rattle.httparse.proofs.HeadLemmas.{request_not_yet, request_never}
use Rattle.httparse.proofs.OpenLemmas.{request_may, Completes_next, Section_after_lines}
use Rattle.httparse.proofs.PieceLemmas.{Refutes_by, Refutes_next, Never_intro, NotYet_intro, RequestStart_deterministic, Section_skip, FieldLines-append, newline_not_stopped, print_end_unique}
use Rattle.alt_http.specs.Feeds.{IsLastFront}
use Rattle.alt_http.specs.Heads.{CanGoOn, IsHeadFront}
use Rattle.alt_http.specs.Judged.{parts_of, head_refusal, IsScan, by_head, by_bad, by_size, by_more}
use Rattle.alt_http.specs.declared.outcome.Scan.TheVariants.{More, Refused}
use Rattle.alt_http.specs.SoFar.{IsBlank, IsWithinFields, IsResumed}
use Rattle.alt_http.specs.Reading.{PartRead, got, short, never, Lines, scan_of, read_start, read_fields, read_head}
use Rattle.alt_http.proofs.Fronts.{EndsInFeed, not_in_target, head_in_window, front_in_front, go_on, bad}
use Rattle.alt_http.proofs.Laws.{no_more, front_stays}
use Rattle.alt_http.proofs.Answering.{scan_of-is}
use Rattle.alt_http.proofs.Readers.{Reads-head, Reads-start, Start_front}
use Rattle.alt_http.proofs.LinePieces.{IsTail, Reads, tail_behind}
use Rattle.alt_http.proofs.Shortness.{short_split, start_whole, fields_whole}

-- bytes that end in a line feed, and at which the reading of a head is cut short, are of one of these forms
pub so_far : (bytes : List ℕ) → EndsInFeed bytes → read_head bytes ≡ short
    → IsWithinFields bytes ⊎ IsBlank bytes
unfolding read_head
so_far bytes ends is = by_start (short_split (read_start bytes)
    (λ rest. read_fields (suc (length rest)) [] rest) is)
  where
    by_start : ((read_start bytes ≡ short) ⊎ ((a : List LineEnd
        × (List ℕ × (List ℕ × (ℕ × LineEnd)))) × (rest : List ℕ) × (read_start bytes ≡ got a rest)
        × (read_fields (suc (length rest)) [] rest ≡ short))) → IsWithinFields bytes ⊎ IsBlank bytes
    by_start (inl s) = let blank = start_whole bytes ends s in
        inr (record { ends = blank.0; is = blank.1 })
    by_start (inr x) =
        let reads : RequestStart x.0 bytes x.1 =
        subst (Reads RequestStart bytes) x.2 (Reads-start bytes) in
        let cut = Start_front x.0 bytes x.1 reads in
        let lines = fields_whole (suc (length x.1)) [] x.1 x.1 (All-nil _, refl)
        (tail_behind bytes cut.0 x.1 cut.1 (inr ends)) x.3 in
        inl (record { start = x.0; middle = x.1; reads = reads; fields = lines.0; lines = lines.1 })

-- ---- behind whole lines of a head

module _ (bytes new : List ℕ) (within : IsWithinFields bytes) where
  start_new : RequestStart within.start (bytes ++ new) (within.middle ++ new)
  start_new = RequestStart_deterministic.append within.start bytes within.middle new within.reads

  lines_new : FieldLines within.fields (within.middle ++ new) new
  lines_new = FieldLines-append within.fields within.middle [] new within.lines

  refutes_behind : {M : List ℕ → Type 0} → Refutes M (Begins Section) new
      → Refutes M (Begins (Then RequestStart Section)) (bytes ++ new)
  refutes_behind {M} none =
      let section : Refutes M (Begins Section) (within.middle ++ new) =
      Refutes_by (λ more h.
      let skipped = Section_skip within.fields h.0.0 h.0.1 ((within.middle ++ new) ++ more)
      (new ++ more) h.1
      (FieldLines-append within.fields (within.middle ++ new) new more lines_new) h.2 in
      ((skipped.0, h.0.1), h.1, skipped.2)) none in
      Refutes_next Section RequestStart_deterministic {a = within.start} start_new section

  -- behind whole lines of a head there is no head where no section follows
  pub within_none : HasNoSection new → HasNoRequest (bytes ++ new)
  within_none none = request_not_yet (refutes_behind (NotYet_intro (λ h. none h.0.0 h.0.1 h.1 h.2)))

  -- nor can one come where no section can
  pub within_never : NeverHasSection new → NeverHasRequest (bytes ++ new)
  within_never none = request_never (refutes_behind
      (Never_intro (λ more h. none more h.0.0 h.0.1 h.1 h.2)))

  -- one can come where a section can
  pub within_may : MayBecomeSection new → MayBecomeRequest (bytes ++ new)
  within_may x =
      let section : Completes Section new = record {
        more = x.0;
        tree = (x.1, x.2);
        reads = λ rest. subst (λ (l : List ℕ). ReadsSection l x.1 x.2 rest)
            (append_assoc new x.0 rest) (ReadsSection-append (new ++ x.0) x.1 x.2 [] rest x.3);
      } in
      request_may (Completes_next RequestStart_deterministic {a = within.start} start_new
      (Section_after_lines within.fields lines_new section))

-- ---- behind empty lines

blank_behind : (es gs : List LineEnd) (text middle rest : List ℕ) → text ≡ print_blank es ++ middle
    → Blank gs text rest → (hs : List LineEnd) × Blank hs middle rest
blank_behind [] gs text middle rest e h = (gs, (sym e ∙ h.0, h.1))
blank_behind (x ∷ es) [] text middle rest e h =
    absurd (newline_not_stopped x _ rest (sym (append_assoc (print_end x) (print_blank es) middle)
    ∙ sym e ∙ h.0) h.1)
blank_behind (x ∷ es) (y ∷ gs) text middle rest e h =
    let heads = print_end_unique x y _ _ (sym (append_assoc (print_end x) (print_blank es) middle)
    ∙ sym e ∙ h.0 ∙ append_assoc (print_end y) (print_blank gs) rest) in
    blank_behind es gs _ middle rest refl (heads.1, h.1)

-- a head behind empty lines
head_behind : (es : List LineEnd) (text : List ℕ) (h : RequestHead) (rest : List ℕ)
    → ReadsRequest (print_blank es ++ text) h rest → (k : RequestHead) × ReadsRequest text k rest
head_behind es text h rest reads =
    let x = request_pieces (print_blank es ++ text) h rest reads in
    let blank = blank_behind es h.blank (print_blank es ++ text) text x.1.0 refl x.1.1 in
    let tree : RequestTree = ((blank.0, (request_tree h).0.1), (request_tree h).1) in
    (request_head tree, request_from_pieces text tree rest (x.0, (x.1.0, blank.1, x.1.2), x.2))

-- empty lines before a head
head_before : (es : List LineEnd) (text : List ℕ) (h : RequestHead) (rest : List ℕ)
    → ReadsRequest text h rest → ReadsRequest (print_blank es ++ text)
    (record h { blank = es ++ h.blank }) rest
head_before es text h rest reads =
    let tail = h.method ++ 32 ∷ (h.target ++ 32 ∷ (print_version h.minor
    ++ (print_end h.line_end ++ (print_section h.fields h.last ++ rest)))) in (
      record {
        method = reads.0.method;
        target = reads.0.target;
        target_text =
            reads.0.target_text;
        minor = reads.0.minor;
        fields = reads.0.fields;
      },
      ap (λ (l : List ℕ). print_blank es ++ l) (reads.1 ∙ print_request-append h rest)
          ∙ sym (append_assoc (print_blank es) (print_blank h.blank) tail)
          ∙ ap (λ (l : List ℕ). l ++ tail) (sym (flat_map-append print_end es h.blank))
          ∙ sym (print_request-append (record h { blank = es ++ h.blank }) rest),
    )

-- behind empty lines there is no head where none follows
pub blank_none : (es : List LineEnd) (new : List ℕ) → HasNoRequest new
    → HasNoRequest (print_blank es ++ new)
blank_none es new none h rest reads = let k = head_behind es new h rest reads in none k.0 rest k.1

-- nor can one come where none can
pub blank_never : (es : List LineEnd) (new : List ℕ) → NeverHasRequest new
    → NeverHasRequest (print_blank es ++ new)
blank_never es new none more h rest reads =
    let k = head_behind es (new ++ more) h rest
    (subst (λ (l : List ℕ). ReadsRequest l h rest)
    (append_assoc (print_blank es) new more) reads) in none more k.0 rest k.1

-- one can come where one can
pub blank_may : (es : List LineEnd) (new : List ℕ) → EndsInFeed new → MayBecomeRequest new
    → MayBecomeRequest (print_blank es ++ new)
blank_may es new ends (inr target) = absurd (not_in_target new ends.line ends.is target)
blank_may es new ends (inl x) =
    inl (
      x.0,
      record x.1 { blank = es ++ x.1.blank },
      subst (λ (l : List ℕ). ReadsRequest l (record x.1 { blank = es ++ x.1.blank }) [])
          (sym (append_assoc (print_blank es) new x.0)) (head_before es (new ++ x.0) x.1 [] x.2),
    )

-- ---- a front that needed more

more_goes_on : (bytes : List ℕ) → IsScan bytes More → CanGoOn bytes
more_goes_on bytes (by_head h x e) = absurd (no_more (parts_of h) (head_refusal (parts_of h)) e)
more_goes_on bytes (by_bad x e) = cc
more_goes_on bytes (by_size x n e) = cc
more_goes_on bytes (by_more on n e) = on

-- it has no head, and can be continued to one
open_none : (bytes front : List ℕ) → CanGoOn bytes → IsHeadFront bytes front → HasNoRequest front
open_none bytes front on is_front h rest reads = let head =
    head_in_window bytes front is_front h rest reads in on.none h head.0 head.1

open_may : (bytes front : List ℕ) → CanGoOn bytes → IsHeadFront bytes front → MayBecomeRequest front
open_may bytes front on is_front = let may = on.each front is_front in
    inl (may.more, may.head, may.reads)

-- so its reading is cut short
open_short : (bytes front : List ℕ) → CanGoOn bytes → IsHeadFront bytes front → read_head front ≡ short
open_short bytes front on is_front = go (read_head front) (Reads-head front)
  where
    go : (r : PartRead Lines) → Reads (Then RequestStart Section) front r → r ≡ short
    go (got t rest) read = absurd (open_none bytes front on is_front (request_head t) rest
        (request_from_pieces front t rest read))
    go short read = refl
    go never read = let may = on.each front is_front in
        absurd (request_never read may.more may.head [] may.reads)

-- bytes that can go on have a front that is within a head, or blank
pub resumed_far : (bytes front : List ℕ) → CanGoOn bytes → IsHeadFront bytes front
    → IsWithinFields front ⊎ IsBlank front
resumed_far bytes front on is_front = so_far front
    (record { line = is_front.line; is = is_front.ends }) (open_short bytes front on is_front)

-- where no line came since
pub same_front : (bytes front : List ℕ) (before : ℕ) → IsResumed bytes front before
    → before ≡ length front → CanGoOn bytes
same_front bytes front before r all =
    let whole : take before front ≡ front = take_all before front (omega arith) in
    go_on bytes front r.last (subst HasNoRequest whole
    (open_none r.old (take before front) r.on r.is_front))
    (subst MayBecomeRequest whole (open_may r.old (take before front) r.on r.is_front))

-- the front of bytes of which some were seen before
pub resumes : (bytes front old : List ℕ) (seen : ℕ) → IsLastFront bytes front
    → scan_of (take seen bytes) ≡ More → IsHeadFront (take seen bytes) old
    → IsResumed bytes front (length old)
resumes bytes front old seen last more is_front =
    let whole = take-append-drop seen bytes in
    let here : IsHeadFront bytes old = subst (λ (l : List ℕ). IsHeadFront l old) whole
    (front_stays (take seen bytes) (drop seen bytes) old is_front) in
    let s = front_in_front bytes front old last here in
    let n = ap length s.1 in let m = length-append old s.0 in
    let cut : take (length old) front ≡ old =
    ap (λ (l : List ℕ). take (length old) l) s.1 ∙ take-append_seam old s.0 in record {
      last = last;
      within = omega (arith, n, m);
      old = take seen bytes;
      on = more_goes_on (take seen bytes) (subst (IsScan (take seen bytes)) more
          (scan_of-is (take seen bytes)));
      is_front = subst (IsHeadFront (take seen bytes)) (sym cut) is_front;
    }

-- what is new of the front
new_ends : (bytes front : List ℕ) (before : ℕ) → IsResumed bytes front before
    → before ≢ length front → EndsInFeed (drop before front)
new_ends bytes front before r more = by_tail (tail_behind front (take before front)
    (drop before front) (sym (take-append-drop before front))
    (inr (record { line = r.last.is_front.line; is = r.last.is_front.ends })))
  where
    by_tail : IsTail (drop before front) → EndsInFeed (drop before front)
    by_tail (inr ends) = ends
    by_tail (inl none) = let n = ap length none in let m = length-drop before front in
        let w = r.within in absurd (more (omega (arith, n, m)))

-- where a section may come behind the lines that were read, more bytes are wanted
pub fields_on : (bytes front : List ℕ) (before : ℕ) → IsResumed bytes front before
    → IsWithinFields (take before front) → HasNoSection (drop before front)
    → MayBecomeSection (drop before front) → CanGoOn bytes
fields_on bytes front before r within none may =
    let whole = take-append-drop before front in
    go_on bytes front r.last (subst HasNoRequest whole
    (within_none (take before front) (drop before front) within none))
    (subst MayBecomeRequest whole (within_may (take before front) (drop before front) within may))

-- where none can come the bytes are refused
pub fields_bad : (bytes front : List ℕ) (before : ℕ) → IsResumed bytes front before
    → IsWithinFields (take before front) → NeverHasSection (drop before front) → IsScan bytes (Refused 1)
fields_bad bytes front before r within none =
    by_bad (bad bytes front r.last (subst NeverHasRequest (take-append-drop before front)
    (within_never (take before front) (drop before front) within none))) refl

-- the same behind empty lines
blank_whole' : (front : List ℕ) (before : ℕ) (blank : IsBlank (take before front))
    → print_blank blank.ends ++ drop before front ≡ front
blank_whole' front before blank = ap (λ (l : List ℕ). l ++ drop before front) (sym blank.is)
    ∙ take-append-drop before front

-- where a head may come behind the empty lines, more bytes are wanted
pub start_on : (bytes front : List ℕ) (before : ℕ) → IsResumed bytes front before
    → before ≢ length front → IsBlank (take before front)
    → HasNoRequest (drop before front) → MayBecomeRequest (drop before front) → CanGoOn bytes
start_on bytes front before r more blank none may =
    let whole = blank_whole' front before blank in
    go_on bytes front r.last (subst HasNoRequest whole
    (blank_none blank.ends (drop before front) none))
    (subst MayBecomeRequest whole (blank_may blank.ends (drop before front)
    (new_ends bytes front before r more) may))

-- where none can come the bytes are refused
pub start_bad : (bytes front : List ℕ) (before : ℕ) → IsResumed bytes front before
    → IsBlank (take before front) → NeverHasRequest (drop before front) → IsScan bytes (Refused 1)
start_bad bytes front before r blank none =
    by_bad (bad bytes front r.last (subst NeverHasRequest (blank_whole' front before blank)
    (blank_never blank.ends (drop before front) none))) refl
