-- A poll goes on with the world, and gives what its line prints.
use Rattle.std.proofs.Common.{◌≡◌, ℕ, ◌<◌, ◌≤◌, List, [], ◌∷◌, ◌++◌, Bool, length, true, false, cond, Option, None, Some, Ok, Err, inl, inr, refl, sym, ap, ◌∙◌, subst, arith}
use Rattle.std.specs.Prelude.{nat_eq, slice_set, ◌||◌}
use Rattle.std.specs.List.{AllByRecursion}
use Rattle.std.specs.Option.{option_map, option_to_list}
use Rattle.std.proofs.lemmas.Bool.{both_ways}
use Rattle.theory.specs.Position.{max_message}
use Rattle.theory.specs.Placed.{Among, Chain, Data, Frame, Pad, Placed, end_of}
use Rattle.theory.specs.Assembly.{Heard, after}
use Rattle.theory.specs.Consumer.{Consumer, moved, passed_by}
use Rattle.theory.specs.Image.{Image, Lose, Poll}
use Rattle.model.specs.StreamLaws.{AreShort, AreWithin, IsWithin}
use Rattle.model.specs.World.{World}
use Rattle.model.specs.World.{AtImage}
use Rattle.theory.proofs.Lists.{all_behind, all_front, each_get}
use Rattle.theory.proofs.Follow.{chain_le}
use Rattle.assembler.specs.Assembling.{behind}
use Rattle.assembler.specs.declared.fault.AssemblyError.{AssemblyError}
use Rattle.assembler.specs.declared.fault.AssemblyError.TheVariants.{Memory, TooLong}
use Rattle.script_meaning.specs.Answers.{with_receiver}
use Rattle.assembler.specs.Hearing.{IsTooLong}
use Rattle.receiver.specs.Polling.{Answer, PollsFault, PollsImage, PollsOf, PollsOn, PollsWhole, Polls, ReadsFrames, gives, moved_all}
use Rattle.script_meaning.specs.LineContents.{LineContent, poll_line}
use Rattle.receiver.specs.declared.poll_error.PollError.TheVariants as polls
use Rattle.script_meaning.specs.Published.{is_refusal, is_too_long, messages_in}
use Rattle.receiver.specs.Receiving.{Opened, Receiver}
use Rattle.script_meaning.specs.ScriptState.{ScriptState, image_of, world_of}
use Rattle.receiver.proofs.PollFrames.{moved_at}
use Rattle.receiver.proofs.Lived.Moved.{moved_past}
use Rattle.script_meaning.proofs.PollRuns.{Stands, loses_one, moves, passed_join, passes, polls_one, stands_after, with_one}
use Rattle.script_meaning.proofs.ReceiverRuns.{At, Follows, FollowsImage, IsFollowed, numbers_of, set_image, unchanged}
use Rattle.script_meaning.proofs.Runs.{Goes, goes_on, goes_one, image_again, image_there, with_image}

-- ---- chains

pub chain_split : (j q : ℕ) (xs ys : List Placed) → Chain j q (xs ++ ys) → (m : ℕ) × Chain j m xs × Chain m q ys
chain_split j q [] ys h = (j, refl, h)
chain_split j q (x ∷ xs) ys h =
    let rest = chain_split (end_of x) q xs ys h.1 in
    (rest.0, (h.0, rest.1), rest.2)

-- ---- no message is too long

-- what an assembler with nothing begun hears, by whether the frame is a message, or begins one
abbrev heard_first : Bool → Bool → List ℕ → Heard
heard_first single begins payload = cond single (record { begun = None; message = Some payload }) (cond begins (record { begun = Some payload; message = None }) (record { begun = None; message = None }))

-- or ends the one that is begun
abbrev heard_next : Bool → Bool → Bool → List ℕ → List ℕ → Heard
heard_next single begins ends y payload =
    cond single (record { begun = None; message = Some payload })
    (cond begins (record { begun = Some payload; message = None })
    (cond ends (record { begun = None; message = Some (y ++ payload) }) (record { begun = Some (y ++ payload); message = None })))

first_fits : (most : ℕ) (single begins : Bool) (given : List (List ℕ)) (payload : List ℕ) → AreWithin most (given ++ option_to_list (heard_first single begins payload).message) → AreWithin most (option_to_list (heard_first single begins payload).begun) → most < length (cond (single || begins) payload (behind None payload)) → ⊥
first_fits most true begins given payload all begun long = let short = (all_behind (λ m. length m ≤ most) given (payload ∷ []) all).0 in absurd (omega (arith, long, short))
first_fits most false true given payload all begun long = absurd (omega (arith, long, begun.0))
first_fits most false false given payload all begun long = absurd (omega (arith, long))

next_fits : (most : ℕ) (single begins ends : Bool) (given : List (List ℕ)) (y payload : List ℕ) → AreWithin most (given ++ option_to_list (heard_next single begins ends y payload).message) → AreWithin most (option_to_list (heard_next single begins ends y payload).begun) → most < length (cond (single || begins) payload (behind (Some y) payload)) → ⊥
next_fits most true begins ends given y payload all begun long = let short = (all_behind (λ m. length m ≤ most) given (payload ∷ []) all).0 in absurd (omega (arith, long, short))
next_fits most false true ends given y payload all begun long = absurd (omega (arith, long, begun.0))
next_fits most false false true given y payload all begun long = let short = (all_behind (λ m. length m ≤ most) given ((y ++ payload) ∷ []) all).0 in absurd (omega (arith, long, short))
next_fits most false false false given y payload all begun long = absurd (omega (arith, long, begun.0))

-- a frame behind which an assembler has no more than the greatest message isn't too long for it
fits : (most : ℕ) (begun : Option (List ℕ)) (given : List (List ℕ)) (f : Frame) → IsWithin most (after (record { begun = begun; given = given }) f) → IsTooLong most begun f → ⊥
fits most begun given (Pad n) short long = long
fits most None given (Data flags payload) short long = first_fits most (nat_eq flags 192) (nat_eq flags 128) given payload short.given short.begun long
fits most (Some y) given (Data flags payload) short long = next_fits most (nat_eq flags 192) (nat_eq flags 128) (nat_eq flags 64) given y payload short.given short.begun long

-- wherever the world goes to, no assembler has more
abbrev pub StaysShort : World → Type 0
StaysShort w = (v : World) → Goes w v → AreShort v

never_too_long : (w : World) (k : ℕ) (i : Image) (c d : Consumer) (g : ℕ) → Stands w k i c → c.lost ≡ false → StaysShort w → g ≡ max_message w.log.identity.geometry → PollsFault g i c TooLong d → ⊥
never_too_long w k i c d g h heard short same p =
    let parts = chain_split c.at d.at p.earlier (p.last ∷ []) p.reads.chain in
    let e = moved_all c p.earlier in
    let v = with_image w k (with_one i e) in
    let at : e.at ≡ parts.0 = moved_at c p.earlier parts.0 parts.1 in
    let first : Goes w v = moves w k i c parts.0 p.earlier h heard parts.1 (all_front (λ s. Among s i.stored) p.earlier (p.last ∷ []) p.reads.among) in
    let stands : Stands v k (with_one i e) e = stands_after w k i c e h in
    let j = with_one i (moved e p.last) in
    let last : Goes v (with_image v k j) = goes_one v (with_image v k j) (AtImage k (Poll 0 p.last)) (polls_one v k (with_one i e) e p.last stands (record { among = (all_behind (λ s. Among s i.stored) p.earlier (p.last ∷ []) p.reads.among).0; here = parts.2.0 ∙ sym at }) ((moved_past c p.earlier).lost ∙ heard)) in
    let all : AreShort (with_image v k j) = short (with_image v k j) (goes_on w v (with_image v k j) first last) in
    let most = max_message w.log.identity.geometry in
    let within = each_get (λ x. AllByRecursion (λ (r : Consumer). IsWithin most r.assembly) x.consumers) (with_image v k j).images k j (image_there v k (with_one i e) j stands.image) all.1 in
    fits g e.assembly.begun e.assembly.given p.last.frame (subst (λ n. IsWithin n (after e.assembly p.last.frame)) (sym same) within.0) (p.named.0 refl)

-- ---- a poll

-- the consumer moves in the world, and is followed
pub record Polled (w : World) (k : ℕ) (i : Image) (c d : Consumer) (given more : List (List ℕ)) (Whole : Type 0) : Type 0 where
  pub goes : Goes w (with_image w k (with_one i d))
  pub further : c.at ≤ d.at
  pub join : d.join ≡ c.join
  pub heard : Whole → (d.lost ≡ false) × (d.assembly.given ≡ given ++ more)

heard_of : (c d : Consumer) (frames : List Placed) (given more : List (List ℕ)) → d ≡ moved_all c frames → gives c frames ≡ more → c.lost ≡ false → c.assembly.given ≡ given → (d.lost ≡ false) × (d.assembly.given ≡ given ++ more)
heard_of c d frames given more after all heard was =
    let past = moved_past c frames in (
      ap (λ x. x.lost) after ∙ past.lost ∙ heard,
      ap (λ x. x.assembly.given) after ∙ past.given ∙ ap (λ xs. xs ++ gives c frames) was ∙ ap (λ xs. given ++ xs) all,
    )

whole_poll : (w : World) (k : ℕ) (i : Image) (c d : Consumer) (frames : List Placed) (given more : List (List ℕ)) (Whole : Type 0) → Stands w k i c → c.lost ≡ false → (Whole → (c.lost ≡ false) × (c.assembly.given ≡ given)) → ReadsFrames i c frames d.at → d ≡ moved_all c frames → gives c frames ≡ more → Polled w k i c d given more Whole
whole_poll w k i c d frames given more Whole h heard known reads after all = record {
  goes = subst (λ x. Goes w (with_image w k (with_one i x))) (sym after) (moves w k i c d.at frames h heard reads.chain reads.among);
  further = chain_le c.at d.at frames reads.chain;
  join = ap (λ x. x.join) after ∙ (moved_past c frames).join;
  heard = λ whole. heard_of c d frames given more after all heard (known whole).1;
}

fault_poll : (w : World) (k : ℕ) (i : Image) (c d : Consumer) (g : ℕ) (fault : AssemblyError) (given more : List (List ℕ)) (Whole : Type 0) → Stands w k i c → c.lost ≡ false → (Whole → ⊥) → PollsFault g i c fault d → Polled w k i c d given more Whole
fault_poll w k i c d g fault given more Whole h heard never p =
    let parts = chain_split c.at d.at p.earlier (p.last ∷ []) p.reads.chain in
    let e = moved_all c p.earlier in
    let v = with_image w k (with_one i e) in
    let at : e.at ≡ parts.0 = moved_at c p.earlier parts.0 parts.1 in
    let first : Goes w v = moves w k i c parts.0 p.earlier h heard parts.1 (all_front (λ s. Among s i.stored) p.earlier (p.last ∷ []) p.reads.among) in
    let stands : Stands v k (with_one i e) e = stands_after w k i c e h in
    let past = with_image v k (with_one i (passed_by e p.last)) in
    let last : Goes v past = goes_one v past (AtImage k (Lose 0 p.last)) (loses_one v k (with_one i e) e p.last stands (record { among = (all_behind (λ s. Among s i.stored) p.earlier (p.last ∷ []) p.reads.among).0; here = parts.2.0 ∙ sym at })) in
    record {
      goes = subst (λ x. Goes w (with_image w k (with_one i x))) (sym p.after) (subst (λ x. Goes w x) (image_again w k (with_one i e) (with_one i (passed_by e p.last))) (goes_on w v past first last));
      further = chain_le c.at d.at (p.earlier ++ p.last ∷ []) p.reads.chain;
      join = ap (λ x. x.join) p.after ∙ (moved_past c p.earlier).join;
      heard = λ whole. absurd (never whole);
    }

lost_poll : (w : World) (k : ℕ) (i : Image) (c d : Consumer) (answer : Answer) (given more : List (List ℕ)) (Whole : Type 0) → Stands w k i c → (Whole → ⊥) → PollsOn i c answer d → Polled w k i c d given more Whole
lost_poll w k i c d answer given more Whole h never p = record {
  goes = subst (λ x. Goes w (with_image w k (with_one i x))) (sym p.after) (passes w k i c d.at p.frames h p.reads.chain p.reads.among);
  further = chain_le c.at d.at p.frames p.reads.chain;
  join = ap (λ x. x.join) p.after ∙ passed_join c p.frames;
  heard = λ whole. absurd (never whole);
}

abbrev pub StillWhole : Type 0 → LineContent → Type 0
StillWhole Whole line = Whole × (is_refusal line ≡ false)

whole_line : (w : World) (k : ℕ) (i : Image) (c d : Consumer) (g : ℕ) (answer : Answer) (given : List (List ℕ)) (Whole : Type 0) → Stands w k i c → c.lost ≡ false → StaysShort w → g ≡ max_message w.log.identity.geometry → (Whole → (c.lost ≡ false) × (c.assembly.given ≡ given)) → PollsWhole g i c answer d → Polled w k i c d given (messages_in (poll_line answer)) (StillWhole Whole (poll_line answer))
whole_line w k i c d g (Ok (Some bytes)) given Whole h heard short same known p = whole_poll w k i c d (p.earlier ++ p.last ∷ []) given (bytes ∷ []) (StillWhole Whole (poll_line (Ok (Some bytes)))) h heard (λ x. known x.0) p.reads p.after p.message_given
whole_line w k i c d g (Ok None) given Whole h heard short same known p = whole_poll w k i c d p.frames given [] (StillWhole Whole (poll_line (Ok None))) h heard (λ x. known x.0) p.reads p.after p.nothing
whole_line w k i c d g (Err (polls.Unassembled Memory)) given Whole h heard short same known p = fault_poll w k i c d g Memory given [] (StillWhole Whole (poll_line (Err (polls.Unassembled Memory)))) h heard (λ x. both_ways true x.1 refl) p
whole_line w k i c d g (Err (polls.Unassembled TooLong)) given Whole h heard short same known p = absurd (never_too_long w k i c d g h heard short same p)
whole_line w k i c d g (Err polls.NoImage) given Whole h heard short same known p = absurd p

image_line : (w : World) (k : ℕ) (i : Image) (c d : Consumer) (g : ℕ) (answer : Answer) (given : List (List ℕ)) (Whole : Type 0) → Stands w k i c → StaysShort w → g ≡ max_message w.log.identity.geometry → (Whole → (c.lost ≡ false) × (c.assembly.given ≡ given)) → PollsImage g i c answer d → Polled w k i c d given (messages_in (poll_line answer)) (StillWhole Whole (poll_line answer))
image_line w k i c d g answer given Whole h short same known (inl p) = whole_line w k i c d g answer given Whole h p.0 short same known p.1
image_line w k i c d g answer given Whole h short same known (inr p) = lost_poll w k i c d answer given (messages_in (poll_line answer)) (StillWhole Whole (poll_line answer)) h (λ x. both_ways c.lost (known x.0).0 p.0) p.1

-- a consumer that has lost nothing is told of no message that is too long
image_short : (w : World) (k : ℕ) (i : Image) (c d : Consumer) (g : ℕ) (answer : Answer) → Stands w k i c → StaysShort w → g ≡ max_message w.log.identity.geometry → c.lost ≡ false → PollsImage g i c answer d → is_too_long (poll_line answer) ≡ false
image_short w k i c d g answer h short same heard (inr p) = absurd (both_ways c.lost heard p.0)
image_short w k i c d g (Ok (Some bytes)) h short same heard (inl p) = refl
image_short w k i c d g (Ok None) h short same heard (inl p) = refl
image_short w k i c d g (Err (polls.Unassembled Memory)) h short same heard (inl p) = refl
image_short w k i c d g (Err (polls.Unassembled TooLong)) h short same heard (inl p) = absurd (never_too_long w k i c d g h heard short same p.1)
image_short w k i c d g (Err polls.NoImage) h short same heard (inl p) = refl

-- ---- of a receiver

pub record PollMet (s : ScriptState) (k : ℕ) (mid : Receiver) (answer : Answer) (joins : List ℕ) (given : List (List ℕ)) (Whole : Type 0) : Type 0 where
  pub goes : Goes (world_of s) (world_of (with_receiver s k mid))
  pub follows : Follows s.log.identity mid joins (given ++ messages_in (poll_line answer)) (StillWhole Whole (poll_line answer))

polls_of : (s : ScriptState) (k : ℕ) (r mid : Receiver) (image : Option Opened) (answer : Answer) (joins : List ℕ) (given : List (List ℕ)) (Whole : Type 0) → At s k r joins given Whole → StaysShort (world_of s) → r.image ≡ image → PollsOf image r answer mid → PollMet s k mid answer joins given Whole
polls_of s k r mid None answer joins given Whole a short was m =
    let nothing : (joins ≡ []) × (given ≡ []) = subst (λ x. FollowsImage x s.log.identity joins given Whole) was a.follows.image in
    let more : given ++ messages_in (poll_line answer) ≡ [] = ap (λ xs. xs ++ messages_in (poll_line answer)) nothing.1 ∙ ap (λ a. messages_in (poll_line a)) m.0 in
    record {
      goes = unchanged s k r mid a.there (ap (λ x. image_of x) m.1);
      follows = record {
        numbers = ap numbers_of m.1 ∙ a.follows.numbers;
        image = subst (λ x. FollowsImage x s.log.identity joins (given ++ messages_in (poll_line answer)) (StillWhole Whole (poll_line answer))) (sym (ap (λ x. x.image) m.1 ∙ was)) (nothing.0, more);
      };
    }
polls_of s k r mid (Some o) answer joins given Whole a short was m =
    let w = world_of s in
    let c = m.0 in
    let d = m.1 in
    let before : IsFollowed s.log.identity o joins given Whole = subst (λ x. FollowsImage x s.log.identity joins given Whole) was a.follows.image in
    let same_list : before.consumer ∷ [] ≡ c ∷ [] = sym before.one ∙ m.2 in
    let same : before.consumer ≡ c = cc in
    let stands : Stands w k o.image c = record { image = a.there ∙ ap Some (ap (option_map (λ x. x.image)) was); one = m.2 } in
    let polled = image_line w k o.image c d r.greatest answer given Whole stands short (ap (λ (n : ℕ × ℕ). n.1) a.follows.numbers) (λ whole. let h = before.heard whole in (ap (λ x. x.lost) (sym same) ∙ h.0, ap (λ x. x.assembly.given) (sym same) ∙ h.1)) m.3 in
    let is : image_of mid ≡ Some (with_one o.image d) = ap (λ x. image_of x) m.4 in
    record {
      goes = subst (λ v. Goes w v) (ap (λ x. record w { images = slice_set w.images k x }) (sym is) ∙ sym (set_image s k mid)) polled.goes;
      follows = record {
        numbers = ap numbers_of m.4 ∙ a.follows.numbers;
        image = subst (λ x. FollowsImage x s.log.identity joins (given ++ messages_in (poll_line answer)) (StillWhole Whole (poll_line answer))) (sym (ap (λ x. x.image) m.4)) (record {
          consumer = d;
          one = refl;
          geometry = before.geometry;
          join = omega (arith, before.join, ap (λ x. x.at) same, polled.further);
          joined = before.joined ∙ ap (λ x. x ∷ []) (ap (λ x. x.join) same ∙ sym polled.join);
          heard = polled.heard;
        });
      };
    }

pub polls_met : (s : ScriptState) (k : ℕ) (r mid : Receiver) (answer : Answer) (joins : List ℕ) (given : List (List ℕ)) (Whole : Type 0) → At s k r joins given Whole → StaysShort (world_of s) → Polls r answer mid → PollMet s k mid answer joins given Whole
polls_met s k r mid answer joins given Whole a short m = polls_of s k r mid r.image answer joins given Whole a short refl m

short_of : (s : ScriptState) (k : ℕ) (r mid : Receiver) (image : Option Opened) (answer : Answer) (joins : List ℕ) (given : List (List ℕ)) (Whole : Type 0) → At s k r joins given Whole → StaysShort (world_of s) → Whole → r.image ≡ image → PollsOf image r answer mid → is_too_long (poll_line answer) ≡ false
short_of s k r mid None answer joins given Whole a short whole was m = ap (λ x. is_too_long (poll_line x)) m.0
short_of s k r mid (Some o) answer joins given Whole a short whole was m =
    let c = m.0 in
    let before : IsFollowed s.log.identity o joins given Whole = subst (λ x. FollowsImage x s.log.identity joins given Whole) was a.follows.image in
    let same_list : before.consumer ∷ [] ≡ c ∷ [] = sym before.one ∙ m.2 in
    let same : before.consumer ≡ c = cc in
    let stands : Stands (world_of s) k o.image c = record { image = a.there ∙ ap Some (ap (option_map (λ x. x.image)) was); one = m.2 } in
    image_short (world_of s) k o.image c m.1 r.greatest answer stands short (ap (λ (n : ℕ × ℕ). n.1) a.follows.numbers) (ap (λ x. x.lost) (sym same) ∙ (before.heard whole).0) m.3

-- as long as memory isn't refused, no message is too long
pub polls_short : (s : ScriptState) (k : ℕ) (r mid : Receiver) (answer : Answer) (joins : List ℕ) (given : List (List ℕ)) (Whole : Type 0) → At s k r joins given Whole → StaysShort (world_of s) → Whole → Polls r answer mid → is_too_long (poll_line answer) ≡ false
polls_short s k r mid answer joins given Whole a short whole m = short_of s k r mid r.image answer joins given Whole a short whole refl m
