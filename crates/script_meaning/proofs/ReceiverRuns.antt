-- A frame that meets a receiver as an event of its image.
use Rattle.std.proofs.Common.{◌≡◌, ℕ, ◌+◌, ◌*◌, ◌≤◌, List, [], ◌∷◌, ◌++◌, map, false, Option, None, Some, inl, inr, refl, sym, ap, ◌∙◌, subst, arith, append-nil}
use Rattle.std.specs.Prelude.{replicate, slice_get, slice_set, pos, ◌+ℤ◌, ◌*ℤ◌}
use Rattle.std.specs.Option.{option_map}
use Rattle.std.specs.List.{AllByRecursion}
use Rattle.std.proofs.lemmas.List.{map-set}
use Rattle.theory.specs.Position.{Geometry, IsGeometry, NamesPlace, count_of, id_of, max_message, max_position, place_of}
use Rattle.theory.specs.Wire.{Header, Wire, DATA, PAD, HEARTBEAT, NAK, SM, SETUP, Setup}
use Rattle.theory.specs.Placed.{Among, Data, Pad, Frame, Placed}
use Rattle.theory.specs.Bytes.{Identity, header_at}
use Rattle.theory.specs.Consumer.{Consumer, consumer_at, least_of}
use Rattle.theory.specs.Control.{named_by, setup_fields}
use Rattle.theory.specs.Image.{Image, ImageEvent, ImageStep, Inserted, Heartbeat, IsLeast, IsWindow, after_heartbeat, after_insert, image_at}
use Rattle.theory.specs.Insert.{head_of, insert_answer}
use Rattle.theory.specs.Laws.{HeaderNamesPlace}
use Rattle.theory.specs.Setup.{NamesPosition}
use Rattle.model.specs.World.{AtImage, Open}
use Rattle.theory.proofs.Lists.{all_at}
use Rattle.theory.proofs.Stays.{beat_stays, insert_stays}
use Rattle.theory.proofs.Tables.{set_same}
use Rattle.receiver.specs.declared.receiver_core.Outcome.{Outcome}
use Rattle.receiver.specs.declared.receiver_core.Outcome.TheVariants.{Asked}
use Rattle.script_meaning.specs.Answers.{with_receiver}
use Rattle.script_meaning.specs.Published.{IfGiven, joins_of}
use Rattle.receiver.specs.Receiving.{Meets, MeetsFrame, MeetsHeartbeat, MeetsSetup, Opened, OpensImage, PassesBy, Receiver, answer_at, given_at}
use Rattle.script_meaning.specs.ScriptState.{ScriptState, image_of, world_of}
use Rattle.script_meaning.proofs.Honest.{IsGivenOut, WasNamed, WasSent}
use Rattle.receiver.proofs.Lived.Meeting.{data_is, pad_is, same_geometry}
use Rattle.script_meaning.proofs.Runs.{Goes, goes_one, stays}

-- ---- what is known of a receiver

-- an image whose one consumer joined there, and was given these messages as long as its receiver is whole
pub record IsFollowed (i : Identity) (o : Opened) (joins : List ℕ) (given : List (List ℕ)) (Whole : Type 0) : Type 0 where
  pub consumer : Consumer
  pub one : o.image.consumers ≡ consumer ∷ []
  pub geometry : o.geometry ≡ i.geometry
  pub join : o.image.join ≤ consumer.at
  pub joined : joins ≡ consumer.join ∷ []
  pub heard : Whole → (consumer.lost ≡ false) × (consumer.assembly.given ≡ given)

abbrev pub FollowsImage : Option Opened → Identity → List ℕ → List (List ℕ) → Type 0 → Type 0
FollowsImage None i joins given Whole = (joins ≡ []) × (given ≡ [])
FollowsImage (Some o) i joins given Whole = IsFollowed i o joins given Whole

-- how many consumers its image has, and its greatest message
abbrev pub numbers_of : Receiver → ℕ × ℕ
numbers_of r = (r.consumers, r.greatest)

pub record Follows (i : Identity) (r : Receiver) (joins : List ℕ) (given : List (List ℕ)) (Whole : Type 0) : Type 0 where
  pub numbers : numbers_of r ≡ (1, max_message i.geometry)
  pub image : FollowsImage r.image i joins given Whole

-- the receiver of this number has this image
abbrev pub HasImage : ScriptState → ℕ → Receiver → Type 0
HasImage s k r = slice_get (world_of s).images k ≡ Some (image_of r)

-- ---- the world with another receiver

pub set_image : (s : ScriptState) (k : ℕ) (r : Receiver) → world_of (with_receiver s k r) ≡ record (world_of s) { images = slice_set (world_of s).images k (image_of r) }
set_image s k r = ap (λ xs. record (world_of s) { images = xs }) (map-set image_of s.receivers k r)

pub unchanged : (s : ScriptState) (k : ℕ) (r mid : Receiver) → HasImage s k r → image_of mid ≡ image_of r → Goes (world_of s) (world_of (with_receiver s k mid))
unchanged s k r mid there same =
    stays (world_of s) (world_of (with_receiver s k mid))
    (set_image s k mid ∙ ap (λ x. record (world_of s) { images = slice_set (world_of s).images k x }) same ∙ ap (λ xs. record (world_of s) { images = xs }) (set_same (world_of s).images k (image_of r) there))

pub changed : (s : ScriptState) (k : ℕ) (r mid : Receiver) (i j : Image) (e : ImageEvent) → HasImage s k r → image_of r ≡ Some i → image_of mid ≡ Some j → ImageStep s.log.identity.geometry s.sender.sent i e j → Goes (world_of s) (world_of (with_receiver s k mid))
changed s k r mid i j e there was is step =
    let w = world_of s in
    subst (λ v. Goes w v) (ap (λ x. record w { images = slice_set w.images k x }) (sym is) ∙ sym (set_image s k mid))
    (goes_one w (record w { images = slice_set w.images k (Some j) }) (AtImage k e) (i, j, there ∙ ap Some was, step, refl))

-- ---- a frame of the stream

followed_still : (i : Identity) (o q : Opened) (joins : List ℕ) (given : List (List ℕ)) (Whole : Type 0) → IsFollowed i o joins given Whole → q.geometry ≡ o.geometry → q.image.consumers ≡ o.image.consumers → q.image.join ≡ o.image.join → IsFollowed i q joins given Whole
followed_still i o q joins given Whole h g c j = record {
  consumer = h.consumer;
  one = c ∙ h.one;
  geometry = g ∙ h.geometry;
  join = omega (arith, j, h.join);
  joined = h.joined;
  heard = h.heard;
}

is_least : (i : Identity) (o : Opened) (joins : List ℕ) (given : List (List ℕ)) (Whole : Type 0) → IsFollowed i o joins given Whole → IsLeast o.image (least_of o.image.consumers)
is_least i o joins given Whole h =
    let least : least_of o.image.consumers ≡ h.consumer.at = ap least_of h.one in
    record {
      low = omega (arith, least, h.join);
      all = subst (λ xs. AllByRecursion (λ c. least_of o.image.consumers ≤ c.at) xs) (sym h.one) (omega (arith, least), tt);
    }

-- ---- what became of a frame

-- the world goes on, and the receiver is followed, with the joins that its line tells
pub record Met (s : ScriptState) (k : ℕ) (mid : Receiver) (out : Outcome) (joins : List ℕ) (given : List (List ℕ)) (Whole : Type 0) : Type 0 where
  pub goes : Goes (world_of s) (world_of (with_receiver s k mid))
  pub follows : Follows s.log.identity mid (joins ++ joins_of out) given Whole

-- a receiver with what is known of it
pub record At (s : ScriptState) (k : ℕ) (r : Receiver) (joins : List ℕ) (given : List (List ℕ)) (Whole : Type 0) : Type 0 where
  pub there : HasImage s k r
  pub follows : Follows s.log.identity r joins given Whole

pub no_more : (i : Identity) (r mid : Receiver) (joins more : List ℕ) (given : List (List ℕ)) (Whole : Type 0) → Follows i r joins given Whole → numbers_of mid ≡ numbers_of r → mid.image ≡ r.image → more ≡ [] → Follows i mid (joins ++ more) given Whole
no_more i r mid joins more given Whole h c same none =
    let all : joins ++ more ≡ joins = ap (λ xs. joins ++ xs) none ∙ append-nil joins in
    record {
      numbers = c ∙ h.numbers;
      image = subst (λ xs. FollowsImage mid.image i xs given Whole) (sym all) (subst (λ o. FollowsImage o i joins given Whole) (sym same) h.image);
    }

pub met_nothing : (s : ScriptState) (k : ℕ) (r mid : Receiver) (out : Outcome) (joins : List ℕ) (given : List (List ℕ)) (Whole : Type 0) → At s k r joins given Whole → numbers_of mid ≡ numbers_of r → mid.image ≡ r.image → joins_of out ≡ [] → Met s k mid out joins given Whole
met_nothing s k r mid out joins given Whole h c same none = record {
  goes = unchanged s k r mid h.there (ap (option_map (λ o. o.image)) same);
  follows = no_more s.log.identity r mid joins (joins_of out) given Whole h.follows c same none;
}

-- the image takes the event, and keeps its consumer and its join
met_image : (s : ScriptState) (k : ℕ) (r mid : Receiver) (out : Outcome) (joins : List ℕ) (given : List (List ℕ)) (Whole : Type 0) (o q : Opened) (e : ImageEvent) → At s k r joins given Whole → r.image ≡ Some o → mid ≡ record r { image = Some q } → joins_of out ≡ [] → ImageStep s.log.identity.geometry s.sender.sent o.image e q.image → q.geometry ≡ o.geometry → q.image.consumers ≡ o.image.consumers → q.image.join ≡ o.image.join → Met s k mid out joins given Whole
met_image s k r mid out joins given Whole o q e h was is none step g c j =
    let all : joins ++ joins_of out ≡ joins = ap (λ xs. joins ++ xs) none ∙ append-nil joins in
    let before : IsFollowed s.log.identity o joins given Whole = subst (λ x. FollowsImage x s.log.identity joins given Whole) was h.follows.image in
    let after = followed_still s.log.identity o q joins given Whole before g c j in
    record {
      goes = changed s k r mid o.image q.image e h.there (ap (option_map (λ x. x.image)) was) (ap (λ x. image_of x) is) step;
      follows = record {
        numbers = ap numbers_of is ∙ h.follows.numbers;
        image = subst (λ x. FollowsImage x s.log.identity (joins ++ joins_of out) given Whole) (sym (ap (λ x. x.image) is)) (subst (λ xs. IsFollowed s.log.identity q xs given Whole) (sym all) after);
      };
    }

misses : (s : ScriptState) (k : ℕ) (r mid : Receiver) (h : Header) (out : Outcome) (joins : List ℕ) (given : List (List ℕ)) (Whole : Type 0) → At s k r joins given Whole → (out ≡ Asked) × (mid ≡ record r { unmet = Some h }) → Met s k mid out joins given Whole
misses s k r mid h out joins given Whole a m = met_nothing s k r mid out joins given Whole a (ap numbers_of m.1) (ap (λ x. x.image) m.1) (ap joins_of m.0)

passes_by : (s : ScriptState) (k : ℕ) (r mid : Receiver) (out : Outcome) (joins : List ℕ) (given : List (List ℕ)) (Whole : Type 0) → At s k r joins given Whole → PassesBy r out mid → Met s k mid out joins given Whole
passes_by s k r mid out joins given Whole a m = met_nothing s k r mid out joins given Whole a (ap numbers_of m.1) (ap (λ x. x.image) m.1) (ap joins_of m.0)

-- a frame that was sent, at its place
inserted : (g : Geometry) (sent : List Placed) (o : Opened) (t : Placed) → o.geometry ≡ g → Among t sent → IsLeast o.image (least_of o.image.consumers) → ImageStep g sent o.image (Inserted (least_of o.image.consumers) t) (given_at o (pos t.at) t.frame).image
inserted g sent o t same among least = (among, least, ap (λ x. after_insert o.image t (insert_answer x (map head_of o.image.stored) (least_of o.image.consumers) o.image.window (head_of t))) same)

frame_met : (s : ScriptState) (k : ℕ) (r mid : Receiver) (image : Option Opened) (h : Header) (f : Frame) (t : Placed) (out : Outcome) (joins : List ℕ) (given : List (List ℕ)) (Whole : Type 0) → At s k r joins given Whole → r.image ≡ image → Among t s.sender.sent → f ≡ t.frame → named_by s.log.identity.geometry h ≡ pos t.at → MeetsFrame image r h f out mid → Met s k mid out joins given Whole
frame_met s k r mid None h f t out joins given Whole a was among same place m = misses s k r mid h out joins given Whole a m
frame_met s k r mid (Some o) h f t out joins given Whole a was among same place m =
    let before : IsFollowed s.log.identity o joins given Whole = subst (λ x. FollowsImage x s.log.identity joins given Whole) was a.follows.image in
    let at : named_by o.geometry h ≡ pos t.at = ap (λ g. named_by g h) before.geometry ∙ place in
    let is : mid ≡ record r { image = Some (given_at o (pos t.at) t.frame) } = m.3 ∙ ap (λ z. record r { image = Some (given_at o z f) }) at ∙ ap (λ x. record r { image = Some (given_at o (pos t.at) x) }) same in
    let keeps = insert_stays o.image t (answer_at o (pos t.at) t.frame) in
    met_image s k r mid out joins given Whole o (given_at o (pos t.at) t.frame) (Inserted (least_of o.image.consumers) t) a was is (ap joins_of m.1) (inserted s.log.identity.geometry s.sender.sent o t before.geometry among (is_least s.log.identity o joins given Whole before)) refl keeps.0 keeps.1

beat_met : (s : ScriptState) (k : ℕ) (r mid : Receiver) (image : Option Opened) (h : Header) (out : Outcome) (joins : List ℕ) (given : List (List ℕ)) (Whole : Type 0) → At s k r joins given Whole → r.image ≡ image → MeetsHeartbeat image r h out mid → Met s k mid out joins given Whole
beat_met s k r mid None h out joins given Whole a was m = misses s k r mid h out joins given Whole a m
beat_met s k r mid (Some o) h out joins given Whole a was m =
    let before : IsFollowed s.log.identity o joins given Whole = subst (λ x. FollowsImage x s.log.identity joins given Whole) was a.follows.image in
    let least = least_of o.image.consumers in
    let z = named_by o.geometry h in
    let q = record o { image = after_heartbeat o.geometry o.image least z } in
    let keeps = beat_stays o.geometry o.image least z in
    met_image s k r mid out joins given Whole o q (Heartbeat least z) a was m.1 (ap joins_of m.0) (is_least s.log.identity o joins given Whole before, ap (λ g. after_heartbeat g o.image least z) before.geometry) refl keeps.0 keeps.1

-- ---- a SETUP that the sender sent

same_position : NamesPlace → (i : Identity) (p q : ℕ) → IsGeometry i.geometry → p ≤ max_position i.geometry → NamesPosition (setup_fields i p) i.geometry q → q ≡ p
same_position law i p q legal low n =
    let place = law i.geometry p legal low in
    let offset : pos (place_of i.geometry p).offset ≡ pos n.offset = n.placed in
    let named : pos (n.count * i.geometry.term_length + n.offset) ≡ pos p = ap (λ z. (z *ℤ pos i.geometry.term_length) +ℤ pos n.offset) (sym n.counted) ∙ ap (λ z. (count_of i.geometry (id_of i.geometry (place_of i.geometry p).count) *ℤ pos i.geometry.term_length) +ℤ z) (sym offset) ∙ place in
    let same : n.count * i.geometry.term_length + n.offset ≡ p = cc in
    n.here ∙ same

opens : NamesPlace → (s : ScriptState) (k : ℕ) (r mid : Receiver) (f : Setup) (p : ℕ) (out : Outcome) (joins : List ℕ) (given : List (List ℕ)) (Whole : Type 0) → At s k r joins given Whole → r.image ≡ None → IsGeometry s.log.identity.geometry → p ≤ max_position s.log.identity.geometry → Among p s.sender.setups → f ≡ setup_fields s.log.identity p → OpensImage r f out mid → Met s k mid out joins given Whole
opens law s k r mid f p out joins given Whole a was legal low among named m =
    let w = world_of s in
    let i = s.log.identity in
    let g = m.0 in
    let q = m.1 in
    let at = m.2 in
    let shape : g ≡ i.geometry = same_geometry f g i.geometry at.geometry (ap (λ x. x.term_length) named) (ap (λ x. x.mtu) named) (ap (λ x. x.initial_term_id) named) in
    let here : q ≡ p = same_position law i p q legal low (subst (λ x. NamesPosition (setup_fields i p) x q) shape (subst (λ x. NamesPosition x g q) named at.position)) in
    let image = image_at q r.window r.consumers in
    let is : image_of mid ≡ Some image = ap (λ x. image_of x) m.4 in
    let closed : image_of r ≡ None = ap (option_map (λ o. o.image)) was in
    let one : r.consumers ≡ 1 = ap (λ (n : ℕ × ℕ). n.0) a.follows.numbers in
    let window : IsWindow i.geometry.term_length i.geometry.mtu r.window = subst (λ x. IsWindow x.term_length x.mtu r.window) shape at.window in
    let nothing : (joins ≡ []) × (given ≡ []) = subst (λ x. FollowsImage x i joins given Whole) was a.follows.image in
    record {
      goes = subst (λ v. Goes w v) (ap (λ x. record w { images = slice_set w.images k x }) (sym is) ∙ sym (set_image s k mid))
          (goes_one w (record w { images = slice_set w.images k (Some image) }) (Open k q r.window r.consumers) (a.there ∙ ap Some closed, subst (λ x. Among x s.sender.setups) (sym here) among, omega (arith, one), omega (arith, one), window, refl));
      follows = record {
        numbers = ap numbers_of m.4 ∙ a.follows.numbers;
        image = subst (λ x. FollowsImage x i (joins ++ joins_of out) given Whole) (sym (ap (λ x. x.image) m.4)) (record {
          consumer = consumer_at q;
          one = ap (λ n. replicate n (consumer_at q)) one;
          geometry = shape;
          join = omega arith;
          joined = ap (λ xs. xs ++ joins_of out) nothing.0 ∙ ap joins_of m.3;
          heard = λ h. (refl, sym nothing.1);
        });
      };
    }

-- ---- a frame of a packet that was given out

-- what holds of the sender
pub record IsSending (s : ScriptState) : Type 0 where
  pub legal : IsGeometry s.log.identity.geometry
  pub sent : AllByRecursion (λ t. t.at ≤ max_position s.log.identity.geometry) s.sender.sent
  pub setups : AllByRecursion (λ p. p ≤ max_position s.log.identity.geometry) s.sender.setups

-- laws on positions
pub record Places : Type 0 where
  pub place : NamesPlace
  pub header : HeaderNamesPlace

setup_met : NamesPlace → (s : ScriptState) (k : ℕ) (r mid : Receiver) (image : Option Opened) (f : Setup) (out : Outcome) (joins : List ℕ) (given : List (List ℕ)) (Whole : Type 0) → IsSending s → At s k r joins given Whole → r.image ≡ image → IfGiven out (WasNamed s.log.identity s.sender.setups f) → MeetsSetup image r f out mid → Met s k mid out joins given Whole
setup_met law s k r mid None f out joins given Whole x a was honest (inl m) =
    let n : WasNamed s.log.identity s.sender.setups f = subst (λ x. IfGiven x (WasNamed s.log.identity s.sender.setups f)) m.3 honest in
    opens law s k r mid f n.0 out joins given Whole a was x.legal (all_at (λ y. y ≤ max_position s.log.identity.geometry) n.0 s.sender.setups x.setups n.1) n.1 n.2 m
setup_met law s k r mid None f out joins given Whole x a was honest (inr m) = met_nothing s k r mid out joins given Whole a (ap numbers_of m.3) (ap (λ x. x.image) m.3) (ap joins_of m.2)
setup_met law s k r mid (Some o) f out joins given Whole x a was honest m = met_nothing s k r mid out joins given Whole a (ap numbers_of m.1) (ap (λ x. x.image) m.1) (ap joins_of m.0)

-- a frame that meets an image is the sender's
record IsFrameOf (s : ScriptState) (h : Header) (f : Frame) : Type 0 where
  placed : Placed
  among : Among placed s.sender.sent
  header : h ≡ header_at s.log.identity placed.at
  same : f ≡ placed.frame

honest_met : Places → (s : ScriptState) (k : ℕ) (r mid : Receiver) (image : Option Opened) (h : Header) (f : Frame) (Sent : Type 0) (out : Outcome) (joins : List ℕ) (given : List (List ℕ)) (Whole : Type 0) → IsSending s → At s k r joins given Whole → r.image ≡ image → IfGiven out Sent → (Sent → IsFrameOf s h f) → MeetsFrame image r h f out mid → Met s k mid out joins given Whole
honest_met laws s k r mid None h f Sent out joins given Whole x a was honest reads m = misses s k r mid h out joins given Whole a m
honest_met laws s k r mid (Some o) h f Sent out joins given Whole x a was honest reads m =
    let sent : Sent = subst (λ x. IfGiven x Sent) m.1 honest in
    let t = reads sent in
    frame_met s k r mid (Some o) h f t.placed out joins given Whole a was t.among t.same
    (ap (λ y. named_by s.log.identity.geometry y) t.header ∙ laws.header s.log.identity t.placed.at x.legal (all_at (λ y. y.at ≤ max_position s.log.identity.geometry) t.placed s.sender.sent x.sent t.among))
    m

pub meets : Places → (s : ScriptState) (k : ℕ) (r mid : Receiver) (w : Wire) (out : Outcome) (joins : List ℕ) (given : List (List ℕ)) (Whole : Type 0) → IsSending s → At s k r joins given Whole → IfGiven out (IsGivenOut s.log.identity s.sender.sent s.sender.setups w) → Meets r w out mid → Met s k mid out joins given Whole
meets laws s k r mid (DATA h flags payload) out joins given Whole x a honest (inl m) =
    honest_met laws s k r mid r.image h (Data flags payload) (WasSent s.log.identity s.sender.sent (DATA h flags payload)) out joins given Whole x a refl honest
    (λ (sent : WasSent s.log.identity s.sender.sent (DATA h flags payload)). let parts = data_is s.log.identity sent.0.at sent.0.frame h flags payload sent.2 in record { placed = sent.0; among = sent.1; header = parts.0; same = parts.1 })
    m.1
meets laws s k r mid (DATA h flags payload) out joins given Whole x a honest (inr m) = passes_by s k r mid out joins given Whole a m.1
meets laws s k r mid (PAD h n) out joins given Whole x a honest (inl m) =
    honest_met laws s k r mid r.image h (Pad n) (WasSent s.log.identity s.sender.sent (PAD h n)) out joins given Whole x a refl honest
    (λ (sent : WasSent s.log.identity s.sender.sent (PAD h n)). let parts = pad_is s.log.identity sent.0.at sent.0.frame h n sent.2 in record { placed = sent.0; among = sent.1; header = parts.0; same = parts.1 })
    m.1
meets laws s k r mid (PAD h n) out joins given Whole x a honest (inr m) = passes_by s k r mid out joins given Whole a m.1
meets laws s k r mid (HEARTBEAT h) out joins given Whole x a honest (inl m) = beat_met s k r mid r.image h out joins given Whole a refl m.1
meets laws s k r mid (HEARTBEAT h) out joins given Whole x a honest (inr m) = passes_by s k r mid out joins given Whole a m.1
meets laws s k r mid (NAK f) out joins given Whole x a honest m = passes_by s k r mid out joins given Whole a m
meets laws s k r mid (SM asks f) out joins given Whole x a honest m = passes_by s k r mid out joins given Whole a m
meets laws s k r mid (SETUP f) out joins given Whole x a honest (inl m) = setup_met laws.place s k r mid r.image f out joins given Whole x a refl honest m.1
meets laws s k r mid (SETUP f) out joins given Whole x a honest (inr m) = passes_by s k r mid out joins given Whole a m.1
