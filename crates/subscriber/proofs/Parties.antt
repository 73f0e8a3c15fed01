-- A follower's cycle is its subscriber's, and it notes the ends that it hears.
use Rattle.std.proofs.Common.{◌≡◌, ◌⊎◌, ◌↔◌, ◌∙◌, IsTrue, ℕ, ℤ, Bool, List, [], ◌∷◌, Option, inl, inr, refl, sym, ap, subst}
use Rattle.agents.specs.Cycles.{Cycle, Fault, HearsAll, TicksBehind}
use Rattle.agents.specs.Parties.{ReceiverHears, ReceiverTicks}
use Rattle.endpoint.specs.Devices.{Device}
use Rattle.endpoint.specs.declared.device_error.DeviceError.{DeviceError}
use Rattle.peer.specs.declared.farewell.StreamEnd.{StreamEnd}
use Rattle.subscriber.proofs.Ends.{hears_more, hears_none, hears_one}
use Rattle.subscriber.specs.Followers.{FollowerHears, FollowerTicks, HasNoted, IsHeard, NotesEnds}
use Rattle.subscriber.specs.declared.listening.setup_offer.ImageParams.{ImageParams}
use Rattle.subscriber.specs.declared.images.follower.Follower.{Follower}

pub hears_all : (now : ℕ) (f g : Follower) (heard given : List (List ℕ)) → HearsAll FollowerHears now f heard g given → HearsAll ReceiverHears now f.subscriber heard g.subscriber given
hears_all now f g [] given all = (ap (λ (x : Follower). x.subscriber) all.0, all.1)
hears_all now f g (d ∷ ds) given (u, first, rest, one, more, is) = (u.subscriber, first, rest, one.hears, hears_all now u g ds rest more, is)

pub notes_none : (f : Follower) → HasNoted f [] f
notes_none f = record { notes = refl; hears = hears_none f.opening f.stream (IsTrue f.heard); opening = refl; stream = refl }

pub notes_all : (now : ℕ) (f g : Follower) (heard given : List (List ℕ)) → HearsAll FollowerHears now f heard g given → HasNoted f heard g
notes_all now f g [] given all = subst (HasNoted f []) (sym all.0) (notes_none f)
notes_all now f g (d ∷ ds) given (u, first, rest, one, more, is) =
    let later = notes_all now u g ds rest more in
    let opening : u.opening ≡ f.opening = ap (λ (x : Follower). x.opening) one.same in
    let stream : u.stream ≡ f.stream = ap (λ (x : Follower). x.stream) one.same in
    record {
      notes = (u.end, one.notes, subst (λ (o : ImageParams). NotesEnds o.session f.stream ds u.end g.end) opening (subst (λ (n : ℤ). NotesEnds u.opening.session n ds u.end g.end) stream later.notes));
      hears = hears_more f.opening f.stream (d ∷ []) ds (IsTrue f.heard) (IsTrue u.heard) (IsTrue g.heard) (hears_one f.opening f.stream d (IsTrue f.heard) (IsTrue u.heard) one.heard)
          (subst (λ (o : ImageParams). IsTrue g.heard ↔ (IsTrue u.heard ⊎ IsHeard o f.stream ds)) opening (subst (λ (n : ℤ). IsTrue g.heard ↔ (IsTrue u.heard ⊎ IsHeard u.opening n ds)) stream later.hears));
      opening = later.opening ∙ opening;
      stream = later.stream ∙ stream;
    }

pub subscribers_cycle : (now : ℕ) (tells : Type 0) (f : Follower) (d : Device) (busy : Bool) (g : Follower) (e : Device) → (c : Cycle FollowerHears FollowerTicks now tells f d busy g e) → (k : Cycle ReceiverHears ReceiverTicks now tells f.subscriber d busy g.subscriber e) × HasNoted f k.heard g
subscribers_cycle now tells f d busy g e c =
    let noted = notes_all now f c.middle c.heard c.answers c.all_heard in (
      record {
        heard = c.heard;
        answers = c.answers;
        given = c.given;
        middle = c.middle.subscriber;
        few = c.few;
        ended = c.ended;
        all_heard = hears_all now f c.middle c.heard c.answers c.all_heard;
        ticked = c.ticked.ticks;
        carries = c.carries;
        is_busy = c.is_busy;
      },
      record {
        notes = subst (λ (end : Option StreamEnd). NotesEnds f.opening.session f.stream c.heard f.end end) (sym (ap (λ (x : Follower). x.end) c.ticked.same)) noted.notes;
        hears = subst (λ (b : Bool). IsTrue b ↔ (IsTrue f.heard ⊎ IsHeard f.opening f.stream c.heard)) (sym (ap (λ (x : Follower). x.heard) c.ticked.same)) noted.hears;
        opening = ap (λ (x : Follower). x.opening) c.ticked.same ∙ noted.opening;
        stream = ap (λ (x : Follower). x.stream) c.ticked.same ∙ noted.stream;
      },
    )

pub subscribers_fault : (now : ℕ) (tells : Type 0) (why : DeviceError) (f : Follower) (d : Device) (g : Follower) (e : Device) → Fault FollowerHears FollowerTicks now tells why f d g e → Fault ReceiverHears ReceiverTicks now tells why f.subscriber d g.subscriber e
subscribers_fault now tells why f d g e h = record {
  heard = h.heard;
  lost = h.lost;
  answers = h.answers;
  given = h.given;
  sent = h.sent;
  middle = h.middle.subscriber;
  few = h.few;
  all_heard = hears_all now f h.middle h.heard h.answers h.all_heard;
  ticked = by_tick h.ticked;
  part = h.part;
  explained = h.explained;
  carries = h.carries;
}
  where
    by_tick : ((g ≡ h.middle) × (h.given ≡ [])) ⊎ TicksBehind FollowerTicks now h.heard h.lost h.answers h.given h.sent h.middle d g e → ((g.subscriber ≡ h.middle.subscriber) × (h.given ≡ [])) ⊎ TicksBehind ReceiverTicks now h.heard h.lost h.answers h.given h.sent h.middle.subscriber d g.subscriber e
    by_tick (inl none) = inl (ap (λ (x : Follower). x.subscriber) none.0, none.1)
    by_tick (inr behind) = inr (record { ended = behind.ended; none_lost = behind.none_lost; answered = behind.answered; ticked = behind.ticked.ticks })
