-- An offer's and a claim's answer is that of the stream which the pass with all publishers shows.
use Rattle.std.proofs.Common.{◌≡◌, ◌∙◌, ℕ, ◌+◌, ◌-◌, ◌*◌, ◌<◌, ◌≤◌, ⊎_elim, List, [], ◌∷◌, ◌++◌, length, append-nil, Bool, true, false, cond, Some, refl, sym, ap, subst, arith}
use Rattle.std.specs.Prelude.{Option, Result, Ok, Err, nat_eq, slice_set}
use Rattle.std.proofs.lemmas.Bool.{cond-false, cond-true, eq-eqb, ne_eqb}
use Rattle.theory.specs.Position.{Geometry, aligned, framed_length, max_payload}
use Rattle.theory.specs.Placed.{Pad}
use Rattle.theory.specs.Bytes.{Identity}
use Rattle.theory.specs.Refusal.{IsLast, IsNotLast}
use Rattle.publication.specs.declared.refusal.Refusal.{Refusal}
use Rattle.publication.specs.declared.refusal.Refusal.TheVariants.{NotConnected, BackPressured, AdminAction, Closed, MaxPositionExceeded}
use Rattle.publication.specs.declared.pass.ClaimRange.{ClaimRange}
use Rattle.publication.specs.declared.pass.Controls.{Controls}
use Rattle.publication.specs.declared.pass.FrameWords.{FrameWords}
use Rattle.publication.specs.declared.pass.Pass.{Pass}
use Rattle.publication.specs.Steps.{Keeps, blank, opened, with_work, works}
use Rattle.publication.specs.Frames.{frame_at, message_frames}
use Rattle.publication.specs.Alone.{Ends, FindsClosed, FindsEnd, PadsEnd, Reaches, RefusedAlone, TakesAt, message_from, padded_from}
use Rattle.one_hand.specs.Stream.{Fits, IsClosed, IsLimited, IsUsedUp, OfferCase, Stream, Trips, after, after_claim, after_offer, answer, answer_of, case_of, refusal_at_end, room, turned, with_claim, with_message, with_padding}
use Rattle.one_hand.specs.declared.log_hand.held.Held.{Held}
use Rattle.one_hand.specs.Shown.{WholeBy, IsWhole, consumers_of, stream_by, stream_of}
use Rattle.position.proofs.Contents.{IsSmall}
use Rattle.one_hand.proofs.Keeps.{padding_keeps, turn_keeps}
use Rattle.one_hand.proofs.Cases.{case_closed, case_fits, case_limited, case_trips, case_used_up}
use Rattle.one_hand.proofs.Handed.{claim_grown, message_grown, pad_grown, rest_unit, still, used_last, used_up}

abbrev ok : ℕ → Result ℕ Refusal
ok k = Ok k

abbrev err : Refusal → Result ℕ Refusal
err why = Err why

-- the same stream and facts by the parts of a pass
abbrev Shows : Pass → Controls → List (Option Held) → Stream → Type 0
Shows q d held m = (stream_of q d held ≡ m) × IsWhole q d held

record Parts (i : Identity) (start : ℕ) (ps : List (Option ℕ)) (z : ℕ) (cs : List ClaimRange) (fs ds : List FrameWords) (q : Pass) : Type 0 where
  identity : q.identity ≡ i
  begin : q.start ≡ start
  stand : consumers_of q ≡ ps
  cleaned : q.keeping.cleaned ≡ z
  claims : q.right.claims ≡ cs
  frames : q.work.frames ≡ fs
  drafts : q.work.drafts ≡ ds

shows : (i : Identity) (start : ℕ) (ps : List (Option ℕ)) (z : ℕ) (cs : List ClaimRange) (fs ds : List FrameWords) (q : Pass) (d : Controls) (held : List (Option Held)) (m : Stream) → Parts i start ps z cs fs ds q → (stream_by i start ps z cs fs d held ≡ m) × WholeBy i start ps z cs fs ds d held → Shows q d held m
shows i start ps z cs fs ds q d held m p h = (
  (λ j. stream_by (p.identity j) (p.begin j) (p.stand j) (p.cleaned j) (p.claims j) (p.frames j) d held) ∙ h.0,
  subst (λ (x : Identity × ℕ × List (Option ℕ) × ℕ × List ClaimRange × List FrameWords × List FrameWords). WholeBy x.0 x.1 x.2 x.3 x.4 x.5 x.6 d held) (λ j. (sym p.identity j, sym p.begin j, sym p.stand j, sym p.cleaned j, sym p.claims j, sym p.frames j, sym p.drafts j)) h.1,
)

keeps_parts : (v q : Pass) → Keeps v q → Parts v.identity v.start (consumers_of v) v.keeping.cleaned v.right.claims v.work.frames v.work.drafts q
keeps_parts v q k = record { identity = ap (λ (x : Pass). x.identity) k; begin = ap (λ (x : Pass). x.start) k; stand = ap consumers_of k; cleaned = ap (λ (x : Pass). x.keeping.cleaned) k; claims = ap (λ (x : Pass). x.right.claims) k; frames = ap (λ (x : Pass). x.work.frames) k; drafts = ap (λ (x : Pass). x.work.drafts) k }

module _ (v : Pass) (c : Controls) (held : List (Option Held)) (w : IsWhole v c held) (low : v.number < 8) where
  abbrev s : Stream
  s = stream_of v c held

  abbrev g : Geometry
  g = v.identity.geometry

  abbrev tail : ℕ
  tail = (stream_of v c held).tail

  -- ---- a message

  pub offered : (message : List ℕ) (start end : ℕ) (between q : Pass) (d : Controls) → IsSmall message → length message < 2147483648 → TakesAt v (length message) tail c.count c d start between → Keeps (opened v (message_from v tail (length message))) between
      → q ≡ with_work (v.work.frames ++ message_frames v.identity true start message) v.work.drafts between → end ≡ start + framed_length g (length message)
      → (Ok end ≡ answer_of s (length message)) × Shows q d held (after_offer s v.number message)
  offered message start end between q d small short t keeps is end_is =
      let n : ℕ = length message in
      let fits : case_of s n ≡ Fits = case_fits s n t.may.unclosed t.may.room t.may.below t.inside in
      let parts : Parts v.identity v.start (consumers_of v) v.keeping.cleaned (v.right.claims ++ message_from v tail n ∷ []) (v.work.frames ++ message_frames v.identity true tail message) v.work.drafts q = record {
        identity = ap (λ (x : Pass). x.identity) is ∙ ap (λ (x : Pass). x.identity) keeps;
        begin = ap (λ (x : Pass). x.start) is ∙ ap (λ (x : Pass). x.start) keeps;
        stand = ap consumers_of is ∙ ap consumers_of keeps;
        cleaned = ap (λ (x : Pass). x.keeping.cleaned) is ∙ ap (λ (x : Pass). x.keeping.cleaned) keeps;
        claims = ap (λ (x : Pass). x.right.claims) is ∙ ap (λ (x : Pass). x.right.claims) keeps;
        frames = ap (λ (x : Pass). x.work.frames) is ∙ ap (λ (k : ℕ). v.work.frames ++ message_frames v.identity true k message) t.start_is;
        drafts = ap (λ (x : Pass). x.work.drafts) is;
      } in
      let all = shows v.identity v.start (consumers_of v) v.keeping.cleaned (v.right.claims ++ message_from v tail n ∷ []) (v.work.frames ++ message_frames v.identity true tail message) v.work.drafts q d held (with_message s v.number message) parts
      (message_grown v.identity v.start (consumers_of v) v.keeping.cleaned v.right.claims v.work.frames v.work.drafts c held w d v.number n low t.may.room t.inside t.settled t.limit message refl small short) in
      (ap (λ (k : ℕ). ok k) (end_is ∙ ap (λ (k : ℕ). k + framed_length g n) t.start_is) ∙ ap (answer s n) (sym fits), (all.0 ∙ ap (λ (x : OfferCase). after s v.number x (with_message s v.number message)) (sym fits), all.1))

  -- ---- a claim

  pub opens : (size start : ℕ) (h : Held) (q : Pass) (d : Controls) → size ≤ max_payload g → TakesAt v size tail c.count c d start q → q.work ≡ works v.work.frames (v.work.drafts ++ blank start (32 + size) ∷ []) → h.start ≡ start → h.size ≡ size
      → (Ok (start + framed_length g size) ≡ answer_of s size) × (start ≡ s.tail) × Shows q d (slice_set held v.number (Some h)) (after_claim s v.number size)
  opens size start h q d short t one at same =
      let fits : case_of s size ≡ Fits = case_fits s size t.may.unclosed t.may.room t.may.below t.inside in
      let later : List (Option Held) = slice_set held v.number (Some h) in
      let parts : Parts v.identity v.start (consumers_of v) v.keeping.cleaned (v.right.claims ++ message_from v tail size ∷ []) (v.work.frames ++ []) (v.work.drafts ++ blank tail (32 + size) ∷ []) q = record {
        identity = ap (λ (x : Pass). x.identity) t.after;
        begin = ap (λ (x : Pass). x.start) t.after;
        stand = ap consumers_of t.after;
        cleaned = ap (λ (x : Pass). x.keeping.cleaned) t.after;
        claims = ap (λ (x : Pass). x.right.claims) t.after;
        frames = ap (λ x. x.frames) one ∙ sym (append-nil v.work.frames);
        drafts = ap (λ x. x.drafts) one ∙ ap (λ (k : ℕ). v.work.drafts ++ blank k (32 + size) ∷ []) t.start_is;
      } in
      let all = shows v.identity v.start (consumers_of v) v.keeping.cleaned (v.right.claims ++ message_from v tail size ∷ []) (v.work.frames ++ []) (v.work.drafts ++ blank tail (32 + size) ∷ []) q d later (with_claim s v.number size) parts
      (claim_grown v.identity v.start (consumers_of v) v.keeping.cleaned v.right.claims v.work.frames v.work.drafts c held w d v.number size low t.may.room t.inside t.settled t.limit h (at ∙ t.start_is) same short) in
      (ap (λ (k : ℕ). ok (k + framed_length g size)) t.start_is ∙ ap (answer s size) (sym fits), t.start_is, (all.0 ∙ ap (λ (x : OfferCase). after s v.number x (with_claim s v.number size)) (sym fits), all.1))

  -- ---- a refusal

  module _ (n : ℕ) (fitting : Stream) (q : Pass) (d : Controls) where
    abbrev Comes : Refusal → Type 0
    Comes why = (Err why ≡ answer_of s n) × Shows q d held (after s v.number (case_of s n) fitting)

    by_case : (x : OfferCase) (why : Refusal) (m : Stream) → case_of s n ≡ x → Err why ≡ answer s n x → m ≡ after s v.number x fitting → Shows q d held m → Comes why
    by_case x why m e said_is after_is h = (said_is ∙ ap (answer s n) (sym e), (h.0 ∙ after_is ∙ ap (λ (y : OfferCase). after s v.number y fitting) (sym e), h.1))

    same_parts : Keeps v q → (stream_by v.identity v.start (consumers_of v) v.keeping.cleaned v.right.claims v.work.frames d held ≡ s) × WholeBy v.identity v.start (consumers_of v) v.keeping.cleaned v.right.claims v.work.frames v.work.drafts d held → Shows q d held s
    same_parts k h = shows v.identity v.start (consumers_of v) v.keeping.cleaned v.right.claims v.work.frames v.work.drafts q d held s (keeps_parts v q k) h

    at_limit : (b : Bool) (why : Refusal) → (b ≡ s.connected → Err why ≡ answer s n IsLimited) → Reaches v tail c.count b c d q → Comes why
    at_limit b why says r = by_case IsLimited why s (case_limited s n r.unclosed r.room r.limited) (says (sym r.flag)) refl (same_parts r.after (still v.identity v.start (consumers_of v) v.keeping.cleaned v.right.claims v.work.frames v.work.drafts c held w d r.same))

    found_closed : FindsClosed v c d q → Comes Closed
    found_closed h = by_case IsClosed Closed s (case_closed s n h.closed) refl refl (same_parts h.after (still v.identity v.start (consumers_of v) v.keeping.cleaned v.right.claims v.work.frames v.work.drafts c held w d h.same))

    abbrev turned_on : Stream → Stream
    turned_on m = record m { active = c.count + 1 }

    not_the_last : IsNotLast c.count → nat_eq c.count 2147483647 ≡ false
    not_the_last h = ne_eqb c.count 2147483647 (λ e. omega (arith, e, h))

    the_last : IsLast c.count → nat_eq c.count 2147483647 ≡ true
    the_last h = eq-eqb c.count 2147483647 h

    goes_on : (m : Stream) → m.active ≡ c.count → IsNotLast c.count → record m { active = c.count + 1 } ≡ turned m
    goes_on m e h = sym (cond-false (nat_eq m.active 2147483647) m (record m { active = m.active + 1 }) (ap (λ (k : ℕ). nat_eq k 2147483647) e ∙ not_the_last h) ∙ ap (λ (k : ℕ). record m { active = k + 1 }) e)

    stays_on : (m : Stream) → m.active ≡ c.count → IsLast c.count → m ≡ turned m
    stays_on m e h = sym (cond-true (nat_eq m.active 2147483647) m (record m { active = m.active + 1 }) (ap (λ (k : ℕ). nat_eq k 2147483647) e ∙ the_last h))

    refusal_goes : IsNotLast c.count → AdminAction ≡ refusal_at_end c.count
    refusal_goes h = sym (cond-false (nat_eq c.count 2147483647) MaxPositionExceeded AdminAction (not_the_last h))

    refusal_ends : IsLast c.count → MaxPositionExceeded ≡ refusal_at_end c.count
    refusal_ends h = sym (cond-true (nat_eq c.count 2147483647) MaxPositionExceeded AdminAction (the_last h))

    pad_parts : PadsEnd v n tail c.count c q → Parts v.identity v.start (consumers_of v) v.keeping.cleaned (v.right.claims ++ record { start = tail; owner = v.number; cuts = ((c.count + 1) * g.term_length - tail) ∷ []; padding = true } ∷ []) (v.work.frames ++ frame_at v.identity tail (Pad ((c.count + 1) * g.term_length - tail)) ∷ []) v.work.drafts q
    pad_parts p = record { identity = ap (λ (x : Pass). x.identity) p.after; begin = ap (λ (x : Pass). x.start) p.after; stand = ap consumers_of p.after; cleaned = ap (λ (x : Pass). x.keeping.cleaned) p.after; claims = ap (λ (x : Pass). x.right.claims) p.after; frames = ap (λ (x : Pass). x.work.frames) p.after; drafts = ap (λ (x : Pass). x.work.drafts) p.after }

    abbrev padded_stream : Stream
    padded_stream = with_padding s v.number (room s)

    ends_going : IsNotLast c.count → Ends v n tail c.count (c.count + 1) c d q → Comes AdminAction
    ends_going go h = ⊎_elim
        (λ (f : FindsEnd v tail c.count c q). by_case IsUsedUp AdminAction (turned_on s) (case_used_up s n f.unclosed f.end) (ap (λ (x : Refusal). err x) (refusal_goes go)) (goes_on s refl go)
        (shows v.identity v.start (consumers_of v) v.keeping.cleaned v.right.claims v.work.frames v.work.drafts q d held (turned_on s) (keeps_parts v q f.after) (used_up v.identity v.start (consumers_of v) v.keeping.cleaned v.right.claims v.work.frames v.work.drafts c held w d f.end (omega (arith, go)) h.settled h.limit)))
        (λ (p : PadsEnd v n tail c.count c q). let kept = padding_keeps s v.number w.stream low p.may.room (unit_of p) in
        by_case Trips AdminAction (turned_on padded_stream) (case_trips s n p.may.unclosed p.may.room p.may.below p.over) (ap (λ (x : Refusal). err x) (refusal_goes go)) (goes_on padded_stream refl go)
        (shows v.identity v.start (consumers_of v) v.keeping.cleaned (v.right.claims ++ record { start = tail; owner = v.number; cuts = ((c.count + 1) * g.term_length - tail) ∷ []; padding = true } ∷ []) (v.work.frames ++ frame_at v.identity tail (Pad ((c.count + 1) * g.term_length - tail)) ∷ []) v.work.drafts q d held (turned_on padded_stream) (pad_parts p)
        (pad_grown v.identity v.start (consumers_of v) v.keeping.cleaned v.right.claims v.work.frames v.work.drafts c held w d v.number low p.may.room (c.count + 1) h.settled h.limit (turn_keeps padded_stream kept (end_of_pad p) (omega (arith, go))))))
        h.how
      where
        unit_of : PadsEnd v n tail c.count c q → aligned ((c.count + 1) * g.term_length - tail) ≡ (c.count + 1) * g.term_length - tail
        unit_of p = rest_unit v.identity v.start (consumers_of v) v.keeping.cleaned v.right.claims v.work.frames v.work.drafts c held w d v.number low p.may.room

        end_of_pad : (p : PadsEnd v n tail c.count c q) → padded_stream.tail ≡ (c.count + 1) * g.term_length
        end_of_pad p = let u = unit_of p in let r = p.may.room in omega (arith, u, r)

    ends_last : IsLast c.count → Ends v n tail c.count c.count c d q → Comes MaxPositionExceeded
    ends_last last h = ⊎_elim
        (λ (f : FindsEnd v tail c.count c q). by_case IsUsedUp MaxPositionExceeded s (case_used_up s n f.unclosed f.end) (ap (λ (x : Refusal). err x) (refusal_ends last)) (stays_on s refl last)
        (shows v.identity v.start (consumers_of v) v.keeping.cleaned v.right.claims v.work.frames v.work.drafts q d held s (keeps_parts v q f.after) (used_last v.identity v.start (consumers_of v) v.keeping.cleaned v.right.claims v.work.frames v.work.drafts c held w d f.end h.settled h.limit)))
        (λ (p : PadsEnd v n tail c.count c q). let kept = padding_keeps s v.number w.stream low p.may.room (rest_unit v.identity v.start (consumers_of v) v.keeping.cleaned v.right.claims v.work.frames v.work.drafts c held w d v.number low p.may.room) in
        by_case Trips MaxPositionExceeded padded_stream (case_trips s n p.may.unclosed p.may.room p.may.below p.over) (ap (λ (x : Refusal). err x) (refusal_ends last)) (stays_on padded_stream refl last)
        (shows v.identity v.start (consumers_of v) v.keeping.cleaned (v.right.claims ++ record { start = tail; owner = v.number; cuts = ((c.count + 1) * g.term_length - tail) ∷ []; padding = true } ∷ []) (v.work.frames ++ frame_at v.identity tail (Pad ((c.count + 1) * g.term_length - tail)) ∷ []) v.work.drafts q d held padded_stream (pad_parts p)
        (pad_grown v.identity v.start (consumers_of v) v.keeping.cleaned v.right.claims v.work.frames v.work.drafts c held w d v.number low p.may.room c.count h.settled h.limit kept)))
        h.how

    pub refused : (why : Refusal) → RefusedAlone v n tail c.count c d why q → Comes why
    refused NotConnected r = at_limit false NotConnected (λ e. ap (λ (x : Refusal). err x) (ap (λ (b : Bool). cond b BackPressured NotConnected) e)) r
    refused BackPressured r = at_limit true BackPressured (λ e. ap (λ (x : Refusal). err x) (ap (λ (b : Bool). cond b BackPressured NotConnected) e)) r
    refused AdminAction r = ends_going r.0 r.1
    refused Closed r = found_closed r
    refused MaxPositionExceeded r = ends_last r.0 r.1

-- ---- what no publisher's call changes

pub record Rests (v : Pass) (c : Controls) (q : Pass) (d : Controls) : Type 0 where
  pub parts : q.right.parts ≡ v.right.parts
  pub reading : q.reading ≡ v.reading
  pub keeping : q.keeping ≡ v.keeping
  pub limit : d.limit ≡ c.limit

keeps_rests : (v w q : Pass) (c d : Controls) → w.right.parts ≡ v.right.parts → w.reading ≡ v.reading → w.keeping ≡ v.keeping → Keeps w q → d.limit ≡ c.limit → Rests v c q d
keeps_rests v w q c d p r k keeps limit = record { parts = ap (λ (x : Pass). x.right.parts) keeps ∙ p; reading = ap (λ (x : Pass). x.reading) keeps ∙ r; keeping = ap (λ (x : Pass). x.keeping) keeps ∙ k; limit = limit }

pub takes_rests : (v : Pass) (n tail active : ℕ) (c d : Controls) (start : ℕ) (q : Pass) → TakesAt v n tail active c d start q → Rests v c q d
takes_rests v n tail active c d start q t = keeps_rests v (opened v (message_from v tail n)) q c d refl refl refl t.after t.limit

ends_rests : (v : Pass) (n tail active then : ℕ) (c d : Controls) (q : Pass) → Ends v n tail active then c d q → Rests v c q d
ends_rests v n tail active then c d q e = ⊎_elim
    (λ (f : FindsEnd v tail active c q). keeps_rests v v q c d refl refl refl f.after e.limit)
    (λ (p : PadsEnd v n tail active c q). keeps_rests v (padded_from v tail ((active + 1) * v.identity.geometry.term_length - tail)) q c d refl refl refl p.after e.limit) e.how

pub refused_rests : (v : Pass) (n tail active : ℕ) (c d : Controls) (why : Refusal) (q : Pass) → RefusedAlone v n tail active c d why q → Rests v c q d
refused_rests v n tail active c d NotConnected q r = keeps_rests v v q c d refl refl refl r.after (ap (λ (x : Controls). x.limit) r.same)
refused_rests v n tail active c d BackPressured q r = keeps_rests v v q c d refl refl refl r.after (ap (λ (x : Controls). x.limit) r.same)
refused_rests v n tail active c d AdminAction q r = ends_rests v n tail active (active + 1) c d q r.1
refused_rests v n tail active c d Closed q r = keeps_rests v v q c d refl refl refl r.after (ap (λ (x : Controls). x.limit) r.same)
refused_rests v n tail active c d MaxPositionExceeded q r = ends_rests v n tail active active c d q r.1
