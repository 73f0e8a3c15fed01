-- A cycle is its steps, one after the other.
use Rattle.std.proofs.Common.{◌≡◌, ℕ, ◌+◌, ◌≤◌, Bool, true, false, List, [], ◌∷◌, ◌++◌, length, map, Option, None, Some, refl, sym, ap, ◌∙◌, subst, append-nil, length-append, arith}
use Rattle.std.specs.List.{flat_map}
use Rattle.std.specs.Option.{option_to_list}
use Rattle.std.specs.Prelude.{nat_eq, nat_lt, ◌&&◌, if◌then◌else◌}
use Rattle.std.proofs.lemmas.Bool.{le-ltb, lt-ltb, ne_eqb}
use Rattle.std.proofs.lemmas.List.{length-map, map-append}
use Rattle.theory.specs.Placed.{Placed}
use Rattle.theory.specs.Wire.{Wire, spelling}
use Rattle.theory.specs.Bytes.{Identity}
use Rattle.theory.specs.Gap.{Gap}
use Rattle.theory.specs.Control.{setup_at}
use Rattle.theory.specs.Datagrams.{frames_of, wires}
use Rattle.theory.specs.Timing.{is_heartbeat_due}
use Rattle.frame_source.specs.Sources.{Source}
use Rattle.sender.specs.Resending.Handler.{Handler, after_due, due_range}
use Rattle.sender.specs.Naming.{after_due as named_after, is_due}
use Rattle.sender.specs.Cycling.{Cycle, GivesAgain, GivesNew, alone, datagrams, heartbeats, is_heard, is_silent, sent_wires, setups}
use Rattle.sender.specs.Giving.{SendsAgain, SendsNew, with_all}
use Rattle.frames.specs.Outgoing.{Outgoing, with_datagram}
use Rattle.sender.specs.Naming.{Naming}
use Rattle.sender.specs.Sending.{Cycles, GoesOn, ReadsTo, Sending, SendsFrom, cycled}

-- ---- what is told

-- a frame in a datagram of its own
pub setup_given : (o p : Outgoing) (v : Wire) (i j : Identity) (a b c : ℕ) → p ≡ with_datagram o (spelling v) → v ≡ setup_at i a → i ≡ j → a ≡ b → b ≡ c → p ≡ with_all o (alone (setups j c true))
setup_given o p v i j a b c e f same at there =
    e
    ∙ ap (λ (x : Wire). with_datagram o (spelling x)) (f ∙ ap (λ (x : Identity). setup_at x a) same ∙ ap (λ (x : ℕ). setup_at j x) (at ∙ there))
    ∙ ap (λ (x : List ℕ). with_datagram o x) (sym (append-nil (spelling (setup_at j c))))

-- nothing goes out again where no range is due
pub none_again : (i : Identity) (frames : List Placed) (range : Option Gap) (o : Outgoing) → range ≡ None → SendsAgain i frames range o o
none_again i frames range o e =
    let none : SendsAgain i frames None o o = record { again = []; gives = refl; out = ap (λ (d : List (List ℕ)). record o { datagrams = d }) (sym (append-nil o.datagrams)) } in
    subst (λ (x : Option Gap). SendsAgain i frames x o o) (sym e) none

-- ---- how many datagrams there are

-- there is none exactly where neither a SETUP nor a frame goes out
silent_is : (i : Identity) (at : ℕ) (setup : Bool) (fresh again : List (List Placed)) (beat : Bool) → nat_eq (length (datagrams (alone (setups i at setup) ++ map (wires i) fresh ++ map (wires i) again))) 0 ≡ is_silent (record { setup = setup; fresh = fresh; again = again; beat = beat })
silent_is i at true fresh again beat = ne_eqb _ 0 (λ e. absurd (omega (arith, e)))
silent_is i at false (f ∷ fs) again beat = ne_eqb _ 0 (λ e. absurd (omega (arith, e)))
silent_is i at false [] (a ∷ rest) beat = ne_eqb _ 0 (λ e. absurd (omega (arith, e)))
silent_is i at false [] [] beat = refl

count : (a f r h : List (List Wire)) → length (datagrams (a ++ f ++ r ++ h)) ≡ length (datagrams a) + length f + length r + length h
count a f r h = omega (arith, length-map {A = List Wire} {B = List ℕ}, length-append {A = List Wire})

-- one more than the SETUP exactly where a frame or a heartbeat goes out
heard_is : (i : Identity) (at to : ℕ) (setup : Bool) (fresh again : List (List Placed)) (beat : Bool) → nat_lt (length (datagrams (alone (setups i at setup)))) (length (datagrams (sent_wires i at to (record { setup = setup; fresh = fresh; again = again; beat = beat })))) ≡ is_heard (record { setup = setup; fresh = fresh; again = again; beat = beat })
heard_is i at to setup (f ∷ fs) again beat = lt-ltb _ _ (omega (arith, count (alone (setups i at setup)) (map (wires i) (f ∷ fs)) (map (wires i) again) (alone (heartbeats i to beat))))
heard_is i at to setup [] (a ∷ rest) beat = lt-ltb _ _ (omega (arith, count (alone (setups i at setup)) [] (map (wires i) (a ∷ rest)) (alone (heartbeats i to beat))))
heard_is i at to setup [] [] true = lt-ltb _ _ (omega (arith, count (alone (setups i at setup)) [] [] (alone (heartbeats i to true))))
heard_is i at to setup [] [] false = le-ltb _ _ (omega (arith, count (alone (setups i at setup)) [] [] (alone (heartbeats i to false))))

-- ---- the steps

-- new frames by another look
pub looks_on : {Looked Ended : Type 0} {grown : List Placed → List Placed → Type 0} {i : Identity} {limit : ℕ} {old : Source} {h : Handler} {o : Outgoing} {new : Source} {k : Handler} {n : Outgoing} → (Ended → Looked) → SendsNew Ended grown i limit old h o new k n → SendsNew Looked grown i limit old h o new k n
looks_on on s = record { fresh = s.fresh; gives = s.gives; looked = λ all. on (s.looked all); handler = s.handler; reads = s.reads; out = s.out; few = s.few; there = s.there; unit = s.unit }

-- what they told of themselves, from the sender s with the flow control ticked to the sender e
pub record Steps {R F : Type 0} (Looked : Type 0) (grown : List Placed → List Placed → Type 0) (after_tick : F → ℕ → F) (reached : F → ℕ) (s b c d e : Sending R F) (flow : F) (o p q r t : Outgoing) (old mid new : Source) : Type 0 where
  pub empty : o.datagrams ≡ []
  pub tick : flow ≡ after_tick s.flow s.clock
  pub name : b ≡ record s { flow = flow; naming = named_after s.naming s.clock }
  pub named : p ≡ with_all o (alone (setups s.identity s.handler.at (is_due s.naming s.clock)))
  pub sends : SendsNew Looked grown b.identity (reached b.flow) old b.handler p mid c.handler q
  pub sent : c ≡ record b { reads = c.reads; handler = c.handler }
  pub again : SendsAgain c.identity mid.frames (due_range c.handler) q r
  pub answered : d ≡ record c { reads = d.reads; handler = after_due c.handler c.clock }
  pub stays : new ≡ mid
  pub beat : t ≡ with_all r (alone (heartbeats d.identity d.handler.at (nat_eq (length r.datagrams) 0 && is_heartbeat_due (option_to_list d.last) d.heard d.clock)))
  pub noted : e ≡ record d { last = if nat_lt (length p.datagrams) (length t.datagrams) then Some d.clock else d.last }

-- the sender behind the SETUP, and behind the new frames
abbrev ticked : {R F : Type 0} → Sending R F → F → Sending R F
ticked s flow = record s { flow = flow; naming = named_after s.naming s.clock }

pub cycles : {R F : Type 0} (Looked : Type 0) (grown : List Placed → List Placed → Type 0) (after_tick : F → ℕ → F) (reached : F → ℕ) (s b c d e : Sending R F) (flow : F) (o p q r t : Outgoing) (old mid new : Source) → Steps Looked grown after_tick reached s b c d e flow o p q r t old mid new → Cycles Looked grown after_tick reached s old new e t.datagrams
cycles {R = R} {F = F} Looked grown after_tick reached s b c d e flow o p q r t old mid new h =
    let S : Type 0 = Sending R F in
    let f : F = after_tick s.flow s.clock in
    let ib : b ≡ ticked s f = h.name ∙ ap (λ (x : F). ticked s x) h.tick in
    let sends : SendsNew Looked grown s.identity (reached f) old s.handler p mid c.handler q = subst (λ (x : S). SendsNew Looked grown x.identity (reached x.flow) old x.handler p mid c.handler q) ib h.sends in
    let ic : c ≡ record (ticked s f) { reads = c.reads; handler = c.handler } = h.sent ∙ ap (λ (x : S). record x { reads = c.reads; handler = c.handler }) ib in
    let again : SendsAgain s.identity mid.frames (due_range c.handler) q r = subst (λ (x : S). SendsAgain x.identity mid.frames (due_range c.handler) q r) ic h.again in
    let id : d ≡ record (ticked s f) { reads = d.reads; handler = after_due c.handler s.clock } = h.answered ∙ ap (λ (x : S). record x { reads = d.reads; handler = after_due c.handler x.clock }) ic in
    let i = s.identity in
    let due = is_due s.naming s.clock in
    let late = is_heartbeat_due (option_to_list s.last) s.heard s.clock in
    let setup = alone (setups i s.handler.at due) in
    let quiet : Cycle = record { setup = due; fresh = sends.fresh; again = again.again; beat = false } in
    let y : Cycle = record { setup = due; fresh = sends.fresh; again = again.again; beat = is_silent quiet && late } in
    let first : p.datagrams ≡ datagrams setup = ap (λ (x : Outgoing). x.datagrams) h.named ∙ ap (λ (x : List (List ℕ)). x ++ datagrams setup) h.empty in
    let second : q.datagrams ≡ datagrams (setup ++ map (wires i) sends.fresh) =
    ap (λ (x : Outgoing). x.datagrams) sends.out
    ∙ ap (λ (x : List (List ℕ)). x ++ datagrams (map (wires i) sends.fresh)) first
    ∙ sym (map-append (flat_map spelling) setup (map (wires i) sends.fresh)) in
    let third : r.datagrams ≡ datagrams (setup ++ map (wires i) sends.fresh ++ map (wires i) again.again) =
    ap (λ (x : Outgoing). x.datagrams) again.out
    ∙ ap (λ (x : List (List ℕ)). x ++ datagrams (map (wires i) again.again)) second
    ∙ sym (map-append (flat_map spelling) (setup ++ map (wires i) sends.fresh) (map (wires i) again.again)) in
    let silent : nat_eq (length r.datagrams) 0 ≡ is_silent quiet = ap (λ (x : List (List ℕ)). nat_eq (length x) 0) third ∙ silent_is i s.handler.at due sends.fresh again.again false in
    let beat : t ≡ with_all r (alone (heartbeats i c.handler.at y.beat)) =
    subst (λ (x : S). t ≡ with_all r (alone (heartbeats x.identity x.handler.at (nat_eq (length r.datagrams) 0 && is_heartbeat_due (option_to_list x.last) x.heard x.clock)))) id h.beat
    ∙ ap (λ (x : Bool). with_all r (alone (heartbeats i c.handler.at (x && late)))) silent in
    let all : t.datagrams ≡ datagrams (sent_wires i s.handler.at c.handler.at y) =
    ap (λ (x : Outgoing). x.datagrams) beat
    ∙ ap (λ (x : List (List ℕ)). x ++ datagrams (alone (heartbeats i c.handler.at y.beat))) third
    ∙ sym (map-append (flat_map spelling) (setup ++ map (wires i) sends.fresh ++ map (wires i) again.again) (alone (heartbeats i c.handler.at y.beat))) in
    let heard : nat_lt (length p.datagrams) (length t.datagrams) ≡ is_heard y =
    ap (λ (x : List (List ℕ)). nat_lt (length x) (length t.datagrams)) first
    ∙ ap (λ (x : List (List ℕ)). nat_lt (length (datagrams setup)) (length x)) all
    ∙ heard_is i s.handler.at c.handler.at due sends.fresh again.again y.beat in
    let same : d.reads ≡ e.reads = sym (ap (λ (x : S). x.reads) h.noted) in
    let state : e ≡ cycled s e.reads f y =
    h.noted
    ∙ ap (λ (x : S). record x { last = if nat_lt (length p.datagrams) (length t.datagrams) then Some x.clock else x.last }) id
    ∙ ap (λ (x : R). record (ticked s f) { reads = x; handler = after_due c.handler s.clock; last = if nat_lt (length p.datagrams) (length t.datagrams) then Some s.clock else s.last }) same
    ∙ ap (λ (x : Bool). record (ticked s f) { reads = e.reads; handler = after_due c.handler s.clock; last = if x then Some s.clock else s.last }) heard
    ∙ ap (λ (x : Handler). record (ticked s f) { reads = e.reads; handler = after_due x s.clock; last = if is_heard y then Some s.clock else s.last }) sends.handler in
    let at : c.handler.at ≡ e.handler.at = ap (λ (x : Handler). x.at) sends.handler ∙ sym (ap (λ (x : S). x.handler.at) state) in
    let there : (gives : GivesNew i.geometry new.frames s.handler.at (reached f) sends.fresh) × (gives.reads ≡ frames_of sends.fresh → Looked) =
    subst (λ (x : Source). (gives : GivesNew i.geometry x.frames s.handler.at (reached f) sends.fresh) × (gives.reads ≡ frames_of sends.fresh → Looked)) (sym h.stays) (sends.gives, sends.looked) in
    record {
      cycle = y;
      is = record {
        setup = refl;
        new = there.0;
        again = subst (λ (x : Handler). GivesAgain i.geometry new.frames (due_range x) again.again) sends.handler (subst (λ (x : Source). GivesAgain i.geometry x.frames (due_range c.handler) again.again) (sym h.stays) again.gives);
        beat = refl;
      };
      looked = there.1;
      state = state;
      sends = all ∙ ap (λ (n : ℕ). datagrams (sent_wires i s.handler.at n y)) at;
      reads = subst (λ (n : ℕ). ReadsTo grown old n new) at (subst (λ (x : Source). ReadsTo grown old c.handler.at x) (sym h.stays) sends.reads);
    }

-- and it still is the sender of its stream
pub stays_from : {R F : Type 0} (c d e : Sending R F) (mid new : Source) (last : Option ℕ) → SendsFrom c mid → d ≡ record c { reads = d.reads; handler = after_due c.handler c.clock } → e ≡ record d { last = last } → new ≡ mid → SendsFrom e new
stays_from {R = R} {F = F} c d e mid new last from answered note same =
    let there : SendsFrom (record c { reads = d.reads; handler = after_due c.handler c.clock; last = last }) mid = record { identity = from.identity; position = from.position; near = from.near } in
    let is : e ≡ record c { reads = d.reads; handler = after_due c.handler c.clock; last = last } = note ∙ ap (λ (x : Sending R F). record x { last = last }) answered in
    subst (λ (x : Sending R F). SendsFrom x new) (sym is) (subst (λ (x : Source). SendsFrom (record c { reads = d.reads; handler = after_due c.handler c.clock; last = last }) x) (sym same) there)

-- behind its SETUP it stands where it stood
pub named_from : {R F : Type 0} (source : R → Source) (s b : Sending R F) (flow : F) (naming : Naming) → SendsFrom s (source s.reads) → b ≡ record s { flow = flow; naming = naming } → SendsFrom b (source b.reads)
named_from {R = R} {F = F} source s b flow naming from name =
    subst (λ (x : Sending R F). SendsFrom x (source x.reads)) (sym name) (record { identity = from.identity; position = from.position; near = from.near })

-- and at the end of the cycle it goes on
pub still_goes : {R F : Type 0} (s b c d e : Sending R F) (flow : F) (naming : Naming) (mid new : Source) (last : Option ℕ) → b ≡ record s { flow = flow; naming = naming } → c ≡ record b { reads = c.reads; handler = c.handler } → SendsFrom c mid → d ≡ record c { reads = d.reads; handler = after_due c.handler c.clock } → e ≡ record d { last = last } → new ≡ mid → GoesOn s e new
still_goes {R = R} {F = F} s b c d e flow naming mid new last name sent from answered note same = record {
  identity = ap (λ (x : Sending R F). x.identity) note ∙ ap (λ (x : Sending R F). x.identity) answered ∙ ap (λ (x : Sending R F). x.identity) sent ∙ ap (λ (x : Sending R F). x.identity) name;
  from = stays_from c d e mid new last from answered note same;
}

-- one SETUP at the most
pub named_few : (i : Identity) (at : ℕ) (due : Bool) (o p : Outgoing) → o.datagrams ≡ [] → p ≡ with_all o (alone (setups i at due)) → length p.datagrams ≤ 1
named_few i at due o p empty named =
    subst (λ (n : ℕ). n ≤ 1) (sym (ap (λ (x : Outgoing). length x.datagrams) named ∙ ap (λ (x : List (List ℕ)). length (x ++ datagrams (alone (setups i at due)))) empty)) (few due)
  where
    few : (b : Bool) → length (datagrams (alone (setups i at b))) ≤ 1
    few true = omega arith
    few false = omega arith

-- so many more
pub more_few : (i : Identity) (fresh : List (List Placed)) (p q : Outgoing) (m n : ℕ) → length p.datagrams ≤ m → length fresh ≤ n → q ≡ with_all p (map (wires i) fresh) → length q.datagrams ≤ m + n
more_few i fresh p q m n held few out =
    let all : length q.datagrams ≡ length (p.datagrams ++ datagrams (map (wires i) fresh)) = ap (λ (x : Outgoing). length x.datagrams) out in
    omega (arith, held, few, all, length-append p.datagrams (datagrams (map (wires i) fresh)), length-map {A = List Wire} {B = List ℕ}, length-map {A = List Placed} {B = List Wire})
