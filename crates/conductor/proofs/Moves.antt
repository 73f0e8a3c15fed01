-- Each move of a pass keeps the rule.
use Rattle.std.proofs.Common.{◌≡◌, ◌≢◌, ℕ, ◌+◌, ◌<◌, ◌≤◌, List, [], ◌∷◌, ◌++◌, length, set, true, false, nat_eq, if◌then◌else◌, sym, refl, ap, ◌∙◌, subst, ⊎_elim, append_assoc, append-nil, arith, true≢false, eq-eqb, ne_eqb}
use Rattle.std.proofs.lemmas.Bool.{cases_eq, cond-true, cond-false}
use mathlib.Core.Option.{some, some-ne-none}
use lib.ListN.{get_elem?}
use Rattle.crossbeam_queue.specs.Fifo.{Pushes, Pops, Forks, Merges, Learns}
use Rattle.crossbeam_queue.proofs.Lists.{at_set}
use Rattle.conductor.specs.declared.command.Command.{Command}
use Rattle.conductor.specs.declared.command.Submitted.{Submitted}
use Rattle.conductor.specs.declared.hand.Hand.{Hand}
use Rattle.conductor.specs.Commands.{of, as_submitted, Begins}
use Rattle.conductor.specs.Hands.{nobody, first_taker, after_opening, new_client, teller, after_hearing, after_end, after_submitting, after_taking}
use Rattle.conductor.specs.Rule.{AreThere, HoldsLastOf, AreSame, FitsClient, FitsTaker, Fits, IsAccounted}
use Rattle.conductor.proofs.Seats.{each_set, each_new}
use Rattle.conductor.proofs.Submitting.{of-append, of-same, of-not, of-own, of-other, goes_on, all_reports}

never : {A : Type 0} → false ≡ true → A
never e = absurd (true≢false (sym e))

fits_nobody : (reader made left : ℕ) (seat : ℕ → ℕ) (sent : ℕ → List Command) (taken : List Submitted) (port : ℕ) → Fits reader made left seat sent taken port nobody
fits_nobody reader made left seat sent taken port = record { client = λ e. never e; taker = λ e. never e; told = (sent 0, refl); heard = tt }

pub begins : IsAccounted [] (first_taker ∷ [])
begins = record {
  reader = 0;
  made = 0;
  left = 8;
  seat = λ _. 0;
  sent = λ _. [];
  taken = [];
  all = λ p. refl;
  unmade = λ p le. refl;
  each = each_new (Fits 0 0 8 (λ _. 0) (λ _. []) []) [] first_taker
      (record {
        client = λ e. never e;
        taker = λ _. record { here = refl; all = refl; made_so_far = refl; left_now = refl; ended = λ p le. refl; unknown = λ p lt. refl };
        told = ([], refl);
        heard = tt;
      })
      (λ j u e. absurd (some-ne-none u (sym e)));
}

-- ---- a command is submitted

grown : (ℕ → List Command) → Submitted → ℕ → List Command
grown sent m p = sent p ++ of p (m ∷ [])

grown_else : (sent : ℕ → List Command) (m : Submitted) (p : ℕ) → m.client ≢ p → grown sent m p ≡ sent p
unfolding grown
grown_else sent m p ne = ap (λ l. sent p ++ l) (of-not p m [] ne) ∙ append-nil (sent p)

pub submits : (n port : ℕ) (v : Hand) (m : Submitted) → v.submits ≡ true → m.client ≡ v.client → Pushes IsAccounted n port v m (λ w. w ≡ after_submitting v m)
unfolding grown
submits n port v m may from items views room h at =
    let mine = h.each port v at in
    let own : FitsClient h.made h.left h.seat h.sent port v = mine.client may in
    let F : ℕ → Hand → Type 0 = Fits h.reader h.made h.left h.seat (grown h.sent m) h.taken in
    let on : (p : ℕ) (xs : List Command) → Begins xs (h.sent p) → Begins xs (grown h.sent m p) = λ p xs b. goes_on xs (h.sent p) (of p (m ∷ [])) b in
    let ended : (p : ℕ) → h.left ≤ p → grown h.sent m p ≡ h.sent p = λ p le. let lt = own.not_ended in grown_else h.sent m p (λ e. absurd (omega (arith, e, from))) in
    let taker : (j : ℕ) (u : Hand) → FitsTaker h.reader h.made h.left h.sent h.taken j u → FitsTaker h.reader h.made h.left (grown h.sent m) h.taken j u =
    λ j u t. record { here = t.here; all = t.all; made_so_far = t.made_so_far; left_now = t.left_now; ended = λ p le. t.ended p le ∙ sym (ended p le); unknown = t.unknown } in
    let now : F port (after_submitting v m) = record {
      client = λ _. record { here = own.here; all = ap (λ l. l ++ m.command ∷ []) own.all ∙ ap (λ l. h.sent v.client ++ l) (sym (of-same v.client m [] from)); made_before = own.made_before; not_ended = own.not_ended };
      taker = λ t. let old = taker port v (mine.taker t) in record { here = old.here; all = old.all; made_so_far = old.made_so_far; left_now = old.left_now; ended = old.ended; unknown = old.unknown };
      told = subst (λ (x : List Command). Begins (v.put ++ m.command ∷ []) x) (ap (λ l. l ++ m.command ∷ []) own.all ∙ ap (λ l. h.sent v.client ++ l) (sym (of-same v.client m [] from))) ([], sym (append-nil (v.put ++ m.command ∷ [])));
      heard = all_reports h.sent (grown h.sent m) v.heard on mine.heard;
    } in
    let others : (j : ℕ) (u : Hand) → j ≢ port → get_elem? views j ≡ some u → F j u = λ j u other e.
    let theirs = h.each j u e in record {
      client = λ s. let c = theirs.client s in
          let apart : m.client ≢ u.client = λ same. other (sym c.here ∙ ap h.seat (sym same ∙ from) ∙ own.here) in
          record { here = c.here; all = c.all ∙ sym (grown_else h.sent m u.client apart); made_before = c.made_before; not_ended = c.not_ended };
      taker = λ t. taker j u (theirs.taker t);
      told = on u.client u.put theirs.told;
      heard = all_reports h.sent (grown h.sent m) u.heard on theirs.heard;
    } in (
      after_submitting v m,
      record {
        reader = h.reader;
        made = h.made;
        left = h.left;
        seat = h.seat;
        sent = grown h.sent m;
        taken = h.taken;
        all = λ p. ap (of p) (sym (append_assoc h.taken items (m ∷ []))) ∙ of-append p (h.taken ++ items) (m ∷ []) ∙ ap (λ l. l ++ of p (m ∷ [])) (h.all p);
        unmade = λ p le. let lt = own.made_before in grown_else h.sent m p (λ e. absurd (omega (arith, e, from))) ∙ h.unmade p le;
        each = each_set F views port (after_submitting v m) now others;
      },
      refl,
    )

pub last : (port : ℕ) (v : Hand) → v.submits ≡ true → Learns IsAccounted port v (λ items. HoldsLastOf v.client v.put items)
last port v may items views h at = record { before = h.taken; parts = ((h.each port v at).client may).all ∙ sym (h.all v.client) }

-- ---- a command is taken

pub takes : (port : ℕ) (v : Hand) → v.takes ≡ true → Pops IsAccounted port v (λ m w. w ≡ after_taking v m)
takes port v may m items views h at =
    let mine = h.each port v at in
    let own : FitsTaker h.reader h.made h.left h.sent h.taken port v = mine.taker may in
    let F : ℕ → Hand → Type 0 = Fits h.reader h.made h.left h.seat h.sent (h.taken ++ m ∷ []) in
    let now : F port (after_taking v m) = record {
      client = λ s. let c = mine.client s in record { here = c.here; all = c.all; made_before = c.made_before; not_ended = c.not_ended };
      taker = λ _. record { here = own.here; all = ap (λ l. l ++ m ∷ []) own.all; made_so_far = own.made_so_far; left_now = own.left_now; ended = own.ended; unknown = own.unknown };
      told = mine.told;
      heard = mine.heard;
    } in
    let others : (j : ℕ) (u : Hand) → j ≢ port → get_elem? views j ≡ some u → F j u = λ j u other e.
    let theirs = h.each j u e in record { client = theirs.client; taker = λ t. absurd (other ((theirs.taker t).here ∙ sym own.here)); told = theirs.told; heard = theirs.heard } in (
      after_taking v m,
      record {
        reader = h.reader;
        made = h.made;
        left = h.left;
        seat = h.seat;
        sent = h.sent;
        taken = h.taken ++ m ∷ [];
        all = λ p. ap (of p) (append_assoc h.taken (m ∷ []) items) ∙ h.all p;
        unmade = h.unmade;
        each = each_set F views port (after_taking v m) now others;
      },
      refl,
    )

pub there : (port : ℕ) (v : Hand) → v.takes ≡ true → Learns IsAccounted port v (λ items. AreThere v.heard (v.taken ++ items))
there port v may items views h at =
    let mine = h.each port v at in
    let own = mine.taker may in
    all_reports h.sent (λ p. of p (v.taken ++ items)) v.heard (λ p xs b. subst (λ (x : List Command). Begins xs x) (sym (h.all p) ∙ ap (λ l. of p (l ++ items)) (sym own.all)) b) mine.heard

pub totals : (port : ℕ) (v : Hand) → v.takes ≡ true → v.left ≡ 0 → Learns IsAccounted port v (λ items. AreSame (v.taken ++ items) v.known)
totals port v may none items views h at = λ p.
    let own = (h.each port v at).taker may in
    let zero_left : h.left ≤ p = let l = own.left_now in omega (arith, l, none) in
    ap (λ l. of p (l ++ items)) own.all ∙ h.all p ∙ sym (own.ended p zero_left)

-- ---- passes are made

seated : (ℕ → ℕ) → ℕ → ℕ → ℕ → ℕ
seated seat made port p = if nat_eq p made then port else seat p

pub opens : (port : ℕ) (v : Hand) → v.takes ≡ true → v.made < v.left → Forks IsAccounted port v (after_opening v) (new_client v)
unfolding seated
opens port v may room items views h at =
    let mine = h.each port v at in
    let own : FitsTaker h.reader h.made h.left h.sent h.taken port v = mine.taker may in
    let vs : List Hand = set views port (after_opening v) in
    let seat : ℕ → ℕ = seated h.seat h.made (length vs) in
    let F : ℕ → Hand → Type 0 = Fits h.reader (h.made + 1) h.left seat h.sent h.taken in
    let client : (j : ℕ) (u : Hand) → FitsClient h.made h.left h.seat h.sent j u → FitsClient (h.made + 1) h.left seat h.sent j u = λ j u c.
    let before = c.made_before in
    let ne : u.client ≢ h.made = λ e. absurd (omega (arith, before, e)) in
    record { here = cond-false (nat_eq u.client h.made) (length vs) (h.seat u.client) (ne_eqb u.client h.made ne) ∙ c.here; all = c.all; made_before = omega (arith, before); not_ended = c.not_ended } in
    let fresh : F (length vs) (new_client v) = record {
      client = λ _. record {
        here = cond-true (nat_eq v.made h.made) (length vs) (h.seat v.made) (eq-eqb v.made h.made own.made_so_far);
        all = let e = own.made_so_far in sym (h.unmade v.made (omega (arith, e)));
        made_before = let e = own.made_so_far in omega (arith, e);
        not_ended = let e = own.left_now in omega (arith, e, room);
      };
      taker = λ e. never e;
      told = (h.sent v.made, refl);
      heard = tt;
    } in
    let now : F port (after_opening v) = record {
      client = λ s. let c = client port v (mine.client s) in record { here = c.here; all = c.all; made_before = c.made_before; not_ended = c.not_ended };
      taker = λ _. record { here = own.here; all = own.all; made_so_far = ap (λ n. n + 1) own.made_so_far; left_now = own.left_now; ended = own.ended; unknown = own.unknown };
      told = mine.told;
      heard = mine.heard;
    } in
    let others : (j : ℕ) (u : Hand) → j ≢ port → get_elem? views j ≡ some u → F j u = λ j u other e.
    let theirs = h.each j u e in record { client = λ s. client j u (theirs.client s); taker = λ t. absurd (other ((theirs.taker t).here ∙ sym own.here)); told = theirs.told; heard = theirs.heard } in
    record {
      reader = h.reader;
      made = h.made + 1;
      left = h.left;
      seat = seat;
      sent = h.sent;
      taken = h.taken;
      all = h.all;
      unmade = λ p le. h.unmade p (omega (arith, le));
      each = each_new F vs (new_client v) fresh (each_set F views port (after_opening v) now others);
    }

pub tells : (port : ℕ) (v : Hand) → Forks IsAccounted port v v (teller v)
tells port v items views h at =
    let F : ℕ → Hand → Type 0 = Fits h.reader h.made h.left h.seat h.sent h.taken in
    let mine = h.each port v at in
    record {
      reader = h.reader;
      made = h.made;
      left = h.left;
      seat = h.seat;
      sent = h.sent;
      taken = h.taken;
      all = h.all;
      unmade = h.unmade;
      each = each_new F (set views port v) (teller v) (record { client = λ e. never e; taker = λ e. never e; told = mine.told; heard = tt }) (each_set F views port v mine (λ j u other e. h.each j u e));
    }

-- ---- passes are taken in

was_there : (views : List Hand) (port other : ℕ) (both w : Hand) → (other ≡ port → ⊥) → get_elem? (set views port both) other ≡ some w → get_elem? views other ≡ some w
was_there views port other both w apart e = ⊎_elim (λ (x : (other ≡ port) × (both ≡ w)). absurd (apart x.0)) (λ x. x.1) (at_set views port other both w e)

pub hears : (port : ℕ) (v : Hand) (other : ℕ) (w : Hand) → Merges IsAccounted port v other w (after_hearing v w) nobody
hears port v other w items views h at apart at' =
    let F : ℕ → Hand → Type 0 = Fits h.reader h.made h.left h.seat h.sent h.taken in
    let mine = h.each port v at in
    let theirs = h.each other w (was_there views port other (after_hearing v w) w apart at') in
    let now : F port (after_hearing v w) = record {
      client = λ s. let c = mine.client s in record { here = c.here; all = c.all; made_before = c.made_before; not_ended = c.not_ended };
      taker = λ t. let own = mine.taker t in record { here = own.here; all = own.all; made_so_far = own.made_so_far; left_now = own.left_now; ended = own.ended; unknown = own.unknown };
      told = mine.told;
      heard = (theirs.told, mine.heard);
    } in
    record {
      reader = h.reader;
      made = h.made;
      left = h.left;
      seat = h.seat;
      sent = h.sent;
      taken = h.taken;
      all = h.all;
      unmade = h.unmade;
      each = each_set F (set views port (after_hearing v w)) other nobody (fits_nobody h.reader h.made h.left h.seat h.sent h.taken other) (λ j u _ e. each_set F views port (after_hearing v w) now (λ i y _ e'. h.each i y e') j u e);
    }

-- what is known once the last client that is left has ended
pub known_then : (left : ℕ) (sent : ℕ → List Command) (known : List Submitted) (q : ℕ) (put : List Command) → left ≡ q + 1 → put ≡ sent q → ((p : ℕ) → left ≤ p → of p known ≡ sent p) → ((p : ℕ) → p < left → of p known ≡ [])
    → (p : ℕ) → q ≤ p → of p (known ++ as_submitted q put) ≡ sent p
known_then left sent known q put is all ended unknown p le =
    of-append p known (as_submitted q put)
    ∙ ⊎_elim
    (λ (e : p ≡ q).
    let P : ℕ → Type 0 = λ x. of x known ++ of x (as_submitted q put) ≡ sent x in
    subst P (sym e) (ap (λ l. l ++ of q (as_submitted q put)) (unknown q (omega (arith, is))) ∙ of-own q put ∙ all))
    (λ (ne : p ≢ q). ap (λ l. of p known ++ l) (of-other q p put (λ e. ne (sym e))) ∙ append-nil (of p known) ∙ ended p (omega (arith, is, le, ne)))
    (cases_eq p q)

pub unknown_then : (left : ℕ) (known : List Submitted) (q : ℕ) (put : List Command) → left ≡ q + 1 → ((p : ℕ) → p < left → of p known ≡ []) → (p : ℕ) → p < q → of p (known ++ as_submitted q put) ≡ []
unknown_then left known q put is unknown p lt =
    of-append p known (as_submitted q put) ∙ ap (λ l. l ++ of p (as_submitted q put)) (unknown p (omega (arith, lt, is))) ∙ of-other q p put (λ e. absurd (omega (arith, lt, e)))

pub ends : (port : ℕ) (v : Hand) (other : ℕ) (w : Hand) → v.takes ≡ true → w.submits ≡ true → v.left ≡ w.client + 1 → Merges IsAccounted port v other w (after_end v w) nobody
ends port v other w may was next items views h at apart at' =
    let mine = h.each port v at in
    let own : FitsTaker h.reader h.made h.left h.sent h.taken port v = mine.taker may in
    let whole = h.each other w (was_there views port other (after_end v w) w apart at') in
    let theirs : FitsClient h.made h.left h.seat h.sent other w = whole.client was in
    let left_is : h.left ≡ w.client + 1 = sym own.left_now ∙ next in
    let F : ℕ → Hand → Type 0 = Fits h.reader h.made w.client h.seat h.sent h.taken in
    let Others : ℕ → Hand → Type 0 = λ j u. j ≢ other → F j u in
    let client : (j : ℕ) (u : Hand) → j ≢ other → FitsClient h.made h.left h.seat h.sent j u → FitsClient h.made w.client h.seat h.sent j u = λ j u ne c.
    let below = c.not_ended in
    let another : u.client ≢ w.client = λ e. ne (sym c.here ∙ ap h.seat e ∙ theirs.here) in
    record { here = c.here; all = c.all; made_before = c.made_before; not_ended = omega (arith, below, left_is, another) } in
    let now : Others port (after_end v w) = λ ne. record {
      client = λ s. let c = client port v ne (mine.client s) in record { here = c.here; all = c.all; made_before = c.made_before; not_ended = c.not_ended };
      taker = λ _. record {
        here = own.here;
        all = own.all;
        made_so_far = own.made_so_far;
        left_now = refl;
        ended = known_then h.left h.sent v.known w.client w.put left_is theirs.all own.ended own.unknown;
        unknown = unknown_then h.left v.known w.client w.put left_is own.unknown;
      };
      told = mine.told;
      heard = mine.heard;
    } in
    let rest : (j : ℕ) (u : Hand) → j ≢ port → get_elem? views j ≡ some u → Others j u = λ j u away e ne.
    let others = h.each j u e in record { client = λ s. client j u ne (others.client s); taker = λ t. absurd (away ((others.taker t).here ∙ sym own.here)); told = others.told; heard = others.heard } in
    record {
      reader = h.reader;
      made = h.made;
      left = w.client;
      seat = h.seat;
      sent = h.sent;
      taken = h.taken;
      all = h.all;
      unmade = h.unmade;
      each = each_set F (set views port (after_end v w)) other nobody (fits_nobody h.reader h.made w.client h.seat h.sent h.taken other) (λ j u ne e. each_set Others views port (after_end v w) now rest j u e ne);
    }
