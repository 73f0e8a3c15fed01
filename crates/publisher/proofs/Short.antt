-- A publisher that ends short has said why.
use Rattle.std.proofs.Common.{◌≡◌, ◌∙◌, ◌++◌, ℕ, ◌+◌, ◌<◌, inl, inr, Bool, true, false, ◌&&◌, if◌then◌else◌, List, [], ◌∷◌, Option, None, Some, IfNone, IfOk, IfSome, Result, Ok, Err, get_or, length, take, refl, sym, ap, subst}
use Rattle.std.specs.List.{list_all}
use Rattle.std.proofs.lemmas.List.{take_more}
use Rattle.std.proofs.lemmas.List.Folds.{list_all-append}
use Rattle.std.specs.Prelude.{⊤}
use Rattle.std.specs.declared.net.SocketAddr.{SocketAddr}
use Rattle.options.specs.declared.ends.plans.PublishPlan.{PublishPlan}
use Rattle.peer.specs.declared.attendance.Ending.{Ending}
use Rattle.peer.specs.declared.attendance.Ending.TheVariants.{Whole, Short}
use Rattle.publisher.specs.declared.offering.reading.Reading.{Reading}
use Rattle.publisher.specs.Farewells.{ending_told, ending_unless_another}
use Rattle.publisher.specs.Judging.{ended_by, fault_in, faulted_or}
use Rattle.publisher.specs.Whys.{SaysElsewhere, told_by}
use Rattle.publisher.specs.declared.fault.PublishFault.{PublishFault}
use Rattle.publisher.specs.declared.judging.Judged.{Judged}
use Rattle.publisher.specs.declared.telling.ToldShortfall.{ToldShortfall}
use Rattle.publisher.specs.Endings.{ending_along, is_over_along, is_whole_along}
use Rattle.publisher.specs.Judges.{Ends, IsToldOf, IsUnwritten, TellsWhy, last_of}
use Rattle.publisher.specs.Seeing.{ChannelDestination}
use Rattle.publisher.specs.Turns.{EndsBehind, SaysWhy}
use Rattle.publisher.specs.declared.sender_thread.ChannelSender.{ChannelSender}

-- ---- a line among those of several destinations

pub told_before : {D : Type 0} (end : Option ℕ) (tail : ℕ) (before : List (ChannelDestination D)) (w : ChannelDestination D) (told : ToldShortfall) → IsToldOf end tail before told → IsToldOf end tail (before ++ w ∷ []) told
told_before {D} end tail [] w told is = absurd is
told_before {D} end tail (b ∷ bs) w told (inl is) = inl is
told_before {D} end tail (b ∷ bs) w told (inr is) = inr (told_before end tail bs w told is)

pub told_last : {D : Type 0} (end : Option ℕ) (tail : ℕ) (before : List (ChannelDestination D)) (w : ChannelDestination D) (told : ToldShortfall) → IsUnwritten end tail w told → IsToldOf end tail (before ++ w ∷ []) told
told_last {D} end tail [] w told is = inl is
told_last {D} end tail (b ∷ bs) w told is = inr (told_last end tail bs w told is)

both : (a b : Bool) → a ≡ true → b ≡ true → (a && (b && true)) ≡ true
both a b p q = (λ j. p j && (q j && true))

abbrev AreWhole : {D : Type 0} → Option ℕ → List (ChannelDestination D) → Option ToldShortfall → Type 0
AreWhole end destinations last = IfNone last (list_all (is_whole_along end) destinations ≡ true)

abbrev AreTold : {D : Type 0} → Option ℕ → ℕ → List (ChannelDestination D) → Option ToldShortfall → Type 0
AreTold end tail destinations last = IfSome last (IsToldOf end tail destinations)

whole_on : {D : Type 0} (end : Option ℕ) (before : List (ChannelDestination D)) (w : ChannelDestination D) (last told : Option ToldShortfall) → AreWhole end before last → IfNone told (is_whole_along end w ≡ true) → AreWhole end (before ++ w ∷ []) (last_of last told)
whole_on {D} end before w None None all here = list_all-append (is_whole_along end) before (w ∷ []) ∙ both (list_all (is_whole_along end) before) (is_whole_along end w) all here
whole_on {D} end before w (Some last) None all here = tt
whole_on {D} end before w last (Some told) all here = tt

told_on : {D : Type 0} (end : Option ℕ) (tail : ℕ) (before : List (ChannelDestination D)) (w : ChannelDestination D) (last told : Option ToldShortfall) → AreTold end tail before last → IfSome told (IsUnwritten end tail w) → AreTold end tail (before ++ w ∷ []) (last_of last told)
told_on {D} end tail before w None None some here = tt
told_on {D} end tail before w (Some last) None some here = told_before end tail before w last some
told_on {D} end tail before w last (Some told) some here = told_last end tail before w told here

-- the lines of one destination more
pub lines_on : {D : Type 0} (end : Option ℕ) (tail : ℕ) (destinations : List (ChannelDestination D)) (i : ℕ) (w d : ChannelDestination D) (last told after : Option ToldShortfall) → i < length destinations → w ≡ get_or destinations i d → AreWhole end (take i destinations) last → AreTold end tail (take i destinations) last
    → IfNone told (is_whole_along end w ≡ true) → IfSome told (IsUnwritten end tail w) → after ≡ last_of last told → AreWhole end (take (i + 1) destinations) after × AreTold end tail (take (i + 1) destinations) after
lines_on {D} end tail destinations i w d last told after less is whole some here line on =
    let more : take i destinations ++ w ∷ [] ≡ take (i + 1) destinations = (λ j. take i destinations ++ is j ∷ []) ∙ sym (take_more destinations i d less) in (
      subst (λ (o : Option ToldShortfall). AreWhole end (take (i + 1) destinations) o) (sym on) (subst (λ (xs : List (ChannelDestination D)). AreWhole end xs (last_of last told)) more (whole_on end (take i destinations) w last told whole here)),
      subst (λ (o : Option ToldShortfall). AreTold end tail (take (i + 1) destinations) o) (sym on) (subst (λ (xs : List (ChannelDestination D)). AreTold end tail xs (last_of last told)) more (told_on end tail (take i destinations) w last told some line)),
    )

-- ---- judged short

abbrev NotShort : Option Ending → Type 0
NotShort None = ⊤
NotShort (Some Whole) = ⊤
NotShort (Some Short) = ⊥

not_whole : (all over : Bool) → all ≡ true → (if all then Some Whole else (if over then Some Short else None)) ≡ Some Short → ⊥
not_whole all over whole h = subst NotShort (ap (λ (b : Bool). if b then Some Whole else (if over then Some Short else None)) (sym whole) ∙ h) tt

pub told_along : {D : Type 0} (e : Ending) (destinations : List (ChannelDestination D)) (end : Option ℕ) (linger wait tail : ℕ) (told : Option ToldShortfall) → ending_along destinations end linger wait ≡ Some e
    → (e ≡ Whole → told ≡ None) → (e ≡ Short → IfNone told (list_all (is_whole_along end) destinations ≡ true) × IfSome told (IsToldOf end tail destinations)) → TellsWhy e end tail destinations told
told_along {D} Whole destinations end linger wait tail told is whole short = whole refl
told_along {D} Short destinations end linger wait tail None is whole short = absurd (not_whole (list_all (is_whole_along end) destinations) (list_all (is_over_along end linger wait) destinations) (short refl).0 is)
told_along {D} Short destinations end linger wait tail (Some told) is whole short = (short refl).1

-- ---- in all

abbrev IsOk : Result Ending PublishFault → Type 0
IsOk (Ok ending) = ⊤
IsOk (Err fault) = ⊥

abbrev IsNone : Option ToldShortfall → Type 0
IsNone None = ⊤
IsNone (Some told) = ⊥

not_err : (fault : PublishFault) (e : Ending) → ◌≡◌ {A = Result Ending PublishFault} (Err fault) (Ok e) → ⊥
not_err fault e h = subst IsOk (sym h) tt

abbrev in_all : Result Ending PublishFault → Bool → Bool → Result Ending PublishFault
in_all e alone no_other = ending_unless_another (ending_told e alone) no_other

faulted : (o : Option PublishFault) (fault : PublishFault) (alone no_other : Bool) (e : Ending) → in_all (faulted_or o (Err fault)) alone no_other ≡ Ok e → ⊥
faulted None fault alone no_other e h = not_err fault e h
faulted (Some other) fault alone no_other e h = not_err other e h

by_line : {D : Type 0} (p : PublishPlan) (first last : ChannelSender D) (judged : Judged) (e : Ending) (line after : Option ToldShortfall) (tail : ℕ) (end : Option ℕ) → EndsBehind p first last judged → judged.ending ≡ e → judged.told ≡ line
    → TellsWhy e end tail last.passes.duty.device.ways line → SaysElsewhere first.peer line (Ok Short) after → SaysWhy p first after
by_line {D} p first last judged Whole None after tail end ends is same told says = inr says
by_line {D} p first last judged Whole (Some line) after tail end ends is same told says = absurd (subst IsNone (sym told) tt)
by_line {D} p first last judged Short None after tail end ends is same told says = absurd told
by_line {D} p first last judged Short (Some line) after tail end ends is same told says = inl (record { last = last; judged = judged; ends = ends; short = is; line = says ∙ sym same })

by_sent : {D : Type 0} (p : PublishPlan) (read : Option Reading) (first last : ChannelSender D) (sent : Result Judged PublishFault) (alone no_other : Bool) (after : Option ToldShortfall)
    → IfOk sent (EndsBehind p first last) → in_all (ended_by read sent) alone no_other ≡ Ok Short → SaysElsewhere first.peer (told_by sent) (Ok Short) after → SaysWhy p first after
by_sent {D} p read first last (Ok judged) alone no_other after behind short says = by_line p first last judged judged.ending judged.told after _ _ behind refl refl behind.why.1 says
by_sent {D} p read first last (Err fault) alone no_other after behind short says = absurd (faulted (fault_in read) fault alone no_other Short short)

pub says_why : {D : Type 0} (p : PublishPlan) (read : Option Reading) (first last : ChannelSender D) (sent : Result Judged PublishFault) (a b ending : Result Ending PublishFault) (alone no_other : Bool) (peer : SocketAddr) (before after : Option ToldShortfall)
    → IfOk sent (EndsBehind p first last) → a ≡ ended_by read sent → b ≡ ending_told a alone → ending ≡ ending_unless_another b no_other → peer ≡ first.peer → before ≡ told_by sent → SaysElsewhere peer before ending after → ending ≡ Ok Short → SaysWhy p first after
says_why {D} p read first last sent a b ending alone no_other peer before after behind one two three same line says short =
    let all : ending ≡ in_all (ended_by read sent) alone no_other =
    three ∙ ap (λ (x : Result Ending PublishFault). ending_unless_another x no_other) (two ∙ ap (λ (x : Result Ending PublishFault). ending_told x alone) one) in
    by_sent p read first last sent alone no_other after behind (sym all ∙ short)
    (subst (λ (x : Result Ending PublishFault). SaysElsewhere first.peer (told_by sent) x after) short
    (subst (λ (l : Option ToldShortfall). SaysElsewhere first.peer l ending after) line
    (subst (λ (a : SocketAddr). SaysElsewhere a before ending after) same says)))

-- what ends the sending is by its destinations
pub behind_ends : {D : Type 0} (p : PublishPlan) (first last : ChannelSender D) (sent : Result Judged PublishFault) → IfOk sent (EndsBehind p first last) → IfOk sent (λ judged. Ends last.passes.duty.device.ways p.linger p.wait judged)
behind_ends {D} p first last (Ok judged) behind = behind.is
behind_ends {D} p first last (Err fault) behind = tt

-- ---- another end

unless_other : (e : Result Ending PublishFault) (no_other : Bool) → IfOk (ending_unless_another e no_other) (λ _. no_other ≡ true)
unless_other (Ok ending) true = refl
unless_other (Ok ending) false = tt
unless_other (Err fault) true = tt
unless_other (Err fault) false = tt

pub no_other : (e after : Result Ending PublishFault) (other : Bool) → after ≡ ending_unless_another e other → IfOk after (λ _. other ≡ true)
no_other e after other is = subst (λ (x : Result Ending PublishFault). IfOk x (λ _. other ≡ true)) (sym is) (unless_other e other)

abbrev NotOkWhole : Result Ending PublishFault → Type 0
NotOkWhole (Ok Whole) = ⊥
NotOkWhole (Ok Short) = ⊤
NotOkWhole (Err fault) = ⊤

whole_unless : (e : Result Ending PublishFault) (other : Bool) → ending_unless_another e other ≡ Ok Whole → e ≡ Ok Whole
whole_unless (Ok e) true h = h
whole_unless (Ok e) false h = absurd (subst NotOkWhole h tt)
whole_unless (Err fault) other h = h

pub whole_still : (e after : Result Ending PublishFault) (other : Bool) → after ≡ ending_unless_another e other → after ≡ Ok Whole → e ≡ Ok Whole
whole_still e after other is whole = whole_unless e other (sym is ∙ whole)

pub fault_still : (o : Option PublishFault) (e after : Result Ending PublishFault) (other : Bool) → after ≡ ending_unless_another e other → IfSome o (λ fault. e ≡ Err fault) → IfSome o (λ fault. after ≡ Err fault)
fault_still None e after other is so = tt
fault_still (Some fault) e after other is so = is ∙ ap (λ (x : Result Ending PublishFault). ending_unless_another x other) so
