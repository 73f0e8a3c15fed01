-- What an assembler gave, and what it has begun, is no longer than the greatest message.
use Rattle.std.proofs.Common.{◌≡◌, ℕ, ◌+◌, ◌<◌, ◌≤◌, inl, inr, ⊎_elim, List, [], ◌∷◌, ◌++◌, length, Bool, true, false, Option, None, Some, refl, sym, ap, ◌∙◌, subst, length-append, arith}
use Rattle.std.specs.Prelude.{⊤}
use Rattle.std.specs.List.{AllByRecursion}
use Rattle.std.specs.Option.{option_to_list}
use Rattle.std.proofs.lemmas.Bool.{cases_lt}
use Rattle.theory.specs.Position.{Geometry, IsGeometry, aligned, max_message, span}
use Rattle.theory.specs.Placed.{AllAmong, Among, Chain, Data, Frame, Pad, Placed, end_of, frame_length, place_all}
use Rattle.theory.specs.Entry.{ArePadding, ArePieces, Entry, HaveFrames, IsEntry, committed, entry_end, flags_of}
use Rattle.theory.specs.Tiling.{Tiles}
use Rattle.theory.specs.Assembly.{Assembly, after, nothing_heard}
use Rattle.theory.specs.Consumer.{Consumer}
use Rattle.theory.specs.Image.{Image}
use Rattle.model.specs.Headline.{Always, AreMessageCuts, ArePublished, IsPublished}
use Rattle.model.specs.Log.{term_of}
use Rattle.model.specs.StreamLaws.{AreShort, AreWithin, IsWithin}
use Rattle.model.specs.World.{World}
use Rattle.theory.proofs.Frames.{InOrder, committed_in_order, in_order_from, pieces_cut, placed_in_order}
use Rattle.theory.proofs.Lists.{all_append, all_at, all_weaker, among_cases, each_weaker}
use Rattle.theory.proofs.Pieces.{payload_in}
use Rattle.model.proofs.Commits.{payload_cuts}
use Rattle.model.proofs.Consumers.{Follows, follows_more, heard}
use Rattle.model.proofs.Messages.{ReadsPadding, entry_before, head_read, last_begun, later_only, long_rest, padding_read, rest_in_order}
use Rattle.model.proofs.Wired.{every_wire, opened_wire, published}
use Rattle.model.proofs.WorldSteps.{KeptImage, KeptWorld, opened}

-- ---- one frame

-- what is begun fits with the rest of a message of these cuts
abbrev Fits : ℕ → Bool → Option (List ℕ) → List ℕ → Type 0
Fits most true b cuts = payload_in cuts ≤ most
Fits most false None cuts = ⊤
Fits most false (Some y) cuts = length y + payload_in cuts ≤ most

-- behind a frame that isn't a message's last
record GoesOn (most : ℕ) (cuts : List ℕ) (a : Assembly) : Type 0 where
  short : IsWithin most a
  fits : Fits most false a.begun cuts

-- behind a message's last frame
ends : (most : ℕ) (first : Bool) (b : Option (List ℕ)) (given : List (List ℕ)) (cut : ℕ) (payload : List ℕ) → 32 + length payload ≡ cut → Fits most first b (cut ∷ []) → AreWithin most given → IsWithin most (after (record { begun = b; given = given }) (Data (flags_of first []) payload))
ends most true b given cut payload size fits all = record { given = all_append (λ m. length m ≤ most) given (payload ∷ []) all (omega (arith, size, fits), tt); begun = tt }
ends most false None given cut payload size fits all = record { given = all_append (λ m. length m ≤ most) given [] all tt; begun = tt }
ends most false (Some y) given cut payload size fits all = record { given = all_append (λ m. length m ≤ most) given ((y ++ payload) ∷ []) all (omega (arith, size, fits, length-append y payload), tt); begun = tt }

goes : (most : ℕ) (first : Bool) (b : Option (List ℕ)) (given : List (List ℕ)) (cut next : ℕ) (cuts payload : List ℕ) → 32 + length payload ≡ cut → Fits most first b (cut ∷ next ∷ cuts) → AreWithin most given → GoesOn most (next ∷ cuts) (after (record { begun = b; given = given }) (Data (flags_of first (next ∷ cuts)) payload))
goes most true b given cut next cuts payload size fits all = record {
  short = record { given = all_append (λ m. length m ≤ most) given [] all tt; begun = (omega (arith, size, fits), tt) };
  fits = omega (arith, size, fits);
}
goes most false None given cut next cuts payload size fits all = record { short = record { given = all_append (λ m. length m ≤ most) given [] all tt; begun = tt }; fits = tt }
goes most false (Some y) given cut next cuts payload size fits all =
    let sum = length-append y payload in
    record {
      short = record { given = all_append (λ m. length m ≤ most) given [] all tt; begun = (omega (arith, size, fits, sum), tt) };
      fits = omega (arith, size, fits, sum);
    }

-- ---- frames that follow each other

-- whatever is read of these entries from a message's end on
abbrev StayShort : ℕ → List Entry → Type 0
StayShort most es = (c q : ℕ) (read : List Placed) (a : Assembly) → a.begun ≡ None → AreWithin most a.given → Chain c q read → AllAmong (committed es) read → IsWithin most (heard a read)

-- from the start of a piece
reads_on : (most q : ℕ) (es : List Entry) → StayShort most es → (first : Bool) (x : ℕ) (cuts : List ℕ) (fs : List Frame) (a : Assembly) (read : List Placed) → AllByRecursion (λ cut. 0 < cut) cuts → 0 < span cuts → ArePieces first cuts fs → InOrder (x + span cuts) (committed es) → Chain x q read → AllAmong (place_all x fs ++ committed es) read → Fits most first a.begun cuts → IsWithin most a → IsWithin most (heard a read)
reads_on most q es rest first x cuts fs a [] pos long pieces order chain among fits short = short
reads_on most q es rest first x [] fs a (s ∷ ss) pos long pieces order chain among fits short = absurd (omega arith)
reads_on most q es rest first x (cut ∷ cuts) [] a (s ∷ ss) pos long pieces order chain among fits short =
    let later : x + span (cut ∷ cuts) ≤ s.at = in_order_from (x + span (cut ∷ cuts)) (committed es) s order among.0 in
    absurd (omega (arith, chain.0))
reads_on most q es rest first x (cut ∷ cuts) (Pad n ∷ fs) a (s ∷ ss) pos long pieces order chain among fits short = absurd pieces.0
reads_on most q es rest first x (cut ∷ []) (Data flags payload ∷ (g ∷ gs)) a (s ∷ ss) pos long pieces order chain among fits short = absurd pieces.1
reads_on most q es rest first x (cut ∷ []) (Data flags payload ∷ []) a (s ∷ ss) pos long pieces order chain among fits short =
    let length_is : aligned (32 + length payload) ≡ aligned cut = ap aligned pieces.0.1 in
    let t : Placed = record { at = x; frame = Data flags payload } in
    let end : ℕ = x + span (cut ∷ []) in
    let lower : x + aligned (32 + length payload) ≡ end = omega arith in
    let order' : InOrder (x + aligned (32 + length payload)) (committed es) = subst (λ y. InOrder y (committed es)) (sym lower) order in
    let is : s ≡ t = head_read x (Data flags payload) (committed es) s among.0 chain.0 order' (omega arith) in
    let a' : Assembly = after a (Data (flags_of first []) payload) in
    let same : heard a (s ∷ ss) ≡ heard a' ss = ap (λ (y : Placed). heard (after a y.frame) ss) is ∙ ap (λ y. heard (after a (Data y payload)) ss) pieces.0.0 in
    let chain' : Chain end q ss = subst (λ y. Chain y q ss) (ap end_of is ∙ lower) chain.1 in
    let among' : AllAmong (committed es) ss = later_only (t ∷ []) (committed es) ss end q (omega arith, tt) chain' among.1 in
    subst (IsWithin most) (sym same) (rest end q ss a' (last_begun first a.begun a.given payload) (ends most first a.begun a.given cut payload pieces.0.1 fits short.given).given chain' among')
reads_on most q es rest first x (cut ∷ (cut' ∷ cuts)) (Data flags payload ∷ fs) a (s ∷ ss) pos long pieces order chain among fits short =
    let length_is : aligned (32 + length payload) ≡ aligned cut = ap aligned pieces.0.1 in
    let t : Placed = record { at = x; frame = Data flags payload } in
    let next : ℕ = x + aligned (32 + length payload) in
    let lower : next + span (cut' ∷ cuts) ≡ x + span (cut ∷ (cut' ∷ cuts)) = omega arith in
    let order' : InOrder (next + span (cut' ∷ cuts)) (committed es) = subst (λ y. InOrder y (committed es)) (sym lower) order in
    let is : s ≡ t = head_read x (Data flags payload) (place_all next fs ++ committed es) s among.0 chain.0 (rest_in_order next (cut' ∷ cuts) fs es (pieces_cut false (cut' ∷ cuts) fs pieces.1) order') (omega arith) in
    let a' : Assembly = after a (Data (flags_of first (cut' ∷ cuts)) payload) in
    let same : heard a (s ∷ ss) ≡ heard a' ss = ap (λ (y : Placed). heard (after a y.frame) ss) is ∙ ap (λ y. heard (after a (Data y payload)) ss) pieces.0.0 in
    let chain' : Chain next q ss = subst (λ y. Chain y q ss) (ap end_of is) chain.1 in
    let among' : AllAmong (place_all next fs ++ committed es) ss = later_only (t ∷ []) (place_all next fs ++ committed es) ss next q (omega arith, tt) chain' among.1 in
    let on = goes most first a.begun a.given cut cut' cuts payload pieces.0.1 fits short.given in
    subst (IsWithin most) (sym same) (reads_on most q es rest false next (cut' ∷ cuts) fs a' ss pos.1 (omega (arith, pos.1.0)) pieces.1 order' chain' among' on.fits on.short)

-- with nothing begun, whatever fits
none_fits : (most : ℕ) (b : Option (List ℕ)) (cuts : List ℕ) → b ≡ None → Fits most false b cuts
none_fits most b cuts e = subst (λ x. Fits most false x cuts) (sym e) tt

nothing_begun : (most : ℕ) (a : Assembly) → a.begun ≡ None → AreWithin most a.given → IsWithin most a
nothing_begun most a e all = record { given = all; begun = subst (λ x. AreWithin most (option_to_list x)) (sym e) tt }

-- from within an entry
skips : (most q : ℕ) (es : List Entry) → StayShort most es → (first : Bool) (x : ℕ) (cuts : List ℕ) (fs : List Frame) (a : Assembly) (c : ℕ) (s : Placed) (ss : List Placed) → a.begun ≡ None → AreWithin most a.given → AllByRecursion (λ cut. 0 < cut) cuts → ArePieces first cuts fs → InOrder (x + span cuts) (committed es) → x < c → Chain c q (s ∷ ss) → Among s (place_all x fs) → AllAmong (place_all x fs ++ committed es) (s ∷ ss) → IsWithin most (heard a (s ∷ ss))
skips most q es rest first x cuts [] a c s ss b all pos pieces order l chain here among = absurd here
skips most q es rest first x [] (f ∷ fs) a c s ss b all pos pieces order l chain here among = absurd pieces
skips most q es rest first x (cut ∷ cuts) (f ∷ fs) a c s ss b all pos pieces order l chain (inl e) among = let at : s.at ≡ x = ap (λ y. y.at) e in absurd (omega (arith, chain.0))
skips most q es rest first x (cut ∷ cuts) (f ∷ fs) a c s ss b all pos pieces order l chain (inr here) among =
    let length_is : aligned (frame_length f) ≡ aligned cut = ap aligned (pieces_cut first (cut ∷ cuts) (f ∷ fs) pieces).0 in
    let next : ℕ = x + aligned (frame_length f) in
    let lower : next + span cuts ≡ x + span (cut ∷ cuts) = omega arith in
    let order' : InOrder (next + span cuts) (committed es) = subst (λ y. InOrder y (committed es)) (sym lower) order in
    let among' : AllAmong (place_all next fs ++ committed es) (s ∷ ss) = later_only (record { at = x; frame = f } ∷ []) (place_all next fs ++ committed es) (s ∷ ss) c q (l, tt) chain among in
    ⊎_elim
    (λ (m : next < c). skips most q es rest false next cuts fs a c s ss b all pos.1 pieces.1 order' m chain here among')
    (λ (m : c ≤ next).
    let low : next ≤ s.at = in_order_from next (place_all next fs) s (placed_in_order next fs) here in
    let at : c ≡ next = omega (arith, chain.0) in
    reads_on most q es rest false next cuts fs a (s ∷ ss) pos.1 (long_rest false next cuts fs s pieces.1 pos.1 here) pieces.1 order' (subst (λ y. Chain y q (s ∷ ss)) at chain) among' (none_fits most a.begun cuts b) (nothing_begun most a b all))
    (cases_lt next c)

-- ---- the whole list

-- the message of an entry isn't longer
abbrev HoldsWithin : ℕ → Entry → Type 0
HoldsWithin most e = e.padding ≡ false → payload_in e.cuts ≤ most

in_entry : (most term p tail q : ℕ) (e : Entry) (es : List Entry) → Tiles term p tail (e ∷ es) → AllByRecursion IsEntry (e ∷ es) → HoldsWithin most e → StayShort most es → (c : ℕ) (s : Placed) (ss : List Placed) (a : Assembly) → a.begun ≡ None → AreWithin most a.given → Chain c q (s ∷ ss) → AllAmong (committed (e ∷ es)) (s ∷ ss) → (padding : Bool) → e.padding ≡ padding → Among s (place_all e.start e.frames) → IsWithin most (heard a (s ∷ ss))
in_entry most term p tail q e es t k holds rest c s ss a b all chain among true is here =
    let before : AllByRecursion (λ y. y.at < entry_end e) (place_all e.start e.frames) = entry_before e k.0 in
    let padded : ArePadding e.cuts e.frames = subst (λ x. HaveFrames x e.cuts e.frames) is k.0.frames in
    let r : ReadsPadding e.start e.cuts s = padding_read e.start e.cuts e.frames s padded here in
    let chain' : Chain (entry_end e) q ss = subst (λ y. Chain y q ss) r.end chain.1 in
    let among' : AllAmong (committed es) ss = later_only (place_all e.start e.frames) (committed es) ss (entry_end e) q before chain' among.1 in
    subst (λ (y : Assembly). IsWithin most (heard y ss)) (sym (r.unheard a)) (rest (entry_end e) q ss a b all chain' among')
in_entry most term p tail q e es t k holds rest c s ss a b all chain among false is here =
    let order : InOrder (entry_end e) (committed es) = committed_in_order term (entry_end e) tail es t.2 k.1 in
    let before : AllByRecursion (λ y. y.at < entry_end e) (place_all e.start e.frames) = entry_before e k.0 in
    let pieces : ArePieces true e.cuts e.frames = subst (λ x. HaveFrames x e.cuts e.frames) is k.0.frames in
    let high : e.start ≤ s.at = in_order_from e.start (place_all e.start e.frames) s (placed_in_order e.start e.frames) here in
    ⊎_elim
    (λ (l : e.start < c). skips most q es rest true e.start e.cuts e.frames a c s ss b all k.0.cuts pieces order l chain here among)
    (λ (l : c ≤ e.start).
    let at : c ≡ e.start = omega (arith, chain.0) in
    reads_on most q es rest true e.start e.cuts e.frames a (s ∷ ss) k.0.cuts k.0.long pieces order (subst (λ y. Chain y q (s ∷ ss)) at chain) among (holds is) (nothing_begun most a b all))
    (cases_lt e.start c)

stay_short : (most term p tail : ℕ) (es : List Entry) → Tiles term p tail es → AllByRecursion IsEntry es → AllByRecursion (HoldsWithin most) es → StayShort most es
stay_short most term p tail es t k holds c q [] a b all chain among = nothing_begun most a b all
stay_short most term p tail [] t k holds c q (s ∷ ss) a b all chain among = absurd among.0
stay_short most term p tail (e ∷ es) t k holds c q (s ∷ ss) a b all chain among =
    ⊎_elim
    (λ (here : Among s (place_all e.start e.frames)). in_entry most term p tail q e es t k holds.0 (stay_short most term (entry_end e) tail es t.2 k.1 holds.1) c s ss a b all chain among e.padding refl here)
    (λ (there : Among s (committed es)).
    let order : InOrder (entry_end e) (committed es) = committed_in_order term (entry_end e) tail es t.2 k.1 in
    let later : entry_end e ≤ s.at = in_order_from (entry_end e) (committed es) s order there in
    let past : entry_end e ≤ c = omega (arith, chain.0) in
    let among' : AllAmong (committed es) (s ∷ ss) = later_only (place_all e.start e.frames) (committed es) (s ∷ ss) c q (all_weaker (λ y. y.at < entry_end e) (λ y. y.at < c) (λ y h. omega arith) (place_all e.start e.frames) (entry_before e k.0)) chain among in
    stay_short most term (entry_end e) tail es t.2 k.1 holds.1 c q (s ∷ ss) a b all chain among')
    (among_cases s (place_all e.start e.frames) (committed es) among.0)

-- ---- a world

holds_within : (g : Geometry) → IsGeometry g → (e : Entry) → IsPublished g e → HoldsWithin (max_message g) e
holds_within g legal e p is =
    let cuts : AreMessageCuts false g e.cuts = subst (λ x. AreMessageCuts x g e.cuts) is p.message in
    let carried : payload_in e.cuts ≡ cuts.0 = ap payload_in cuts.2 ∙ payload_cuts g cuts.0 legal in
    omega (arith, carried, cuts.1)

follows_short : (w : World) → KeptWorld w → IsGeometry w.log.identity.geometry → ArePublished w → (j : ℕ) (r : Consumer) → Follows (committed w.log.entries) j r → IsWithin (max_message w.log.identity.geometry) r.assembly
follows_short w k legal p j r f =
    let g = w.log.identity.geometry in
    let most = max_message g in
    let holds = all_weaker (IsPublished g) (HoldsWithin most) (holds_within g legal) w.log.entries p in
    subst (IsWithin most) (sym f.heard_all) (stay_short most (term_of w.log) w.log.start w.log.tail w.log.entries k.log.tiles k.log.entries holds r.join r.heard_to f.kept nothing_heard refl tt f.kept_chain f.kept_among)

image_short : (w : World) → KeptWorld w → IsGeometry w.log.identity.geometry → ArePublished w → (i : Image) → KeptImage w.sender.sent i → AllByRecursion (λ r. IsWithin (max_message w.log.identity.geometry) r.assembly) i.consumers
image_short w k legal p i m = all_weaker (Follows i.stored i.join) (λ r. IsWithin (max_message w.log.identity.geometry) r.assembly) (λ r f. follows_short w k legal p i.join r (follows_more i.stored (committed w.log.entries) among i.join r f)) i.consumers m.consumers
  where
    among : (s : Placed) → Among s i.stored → Among s (committed w.log.entries)
    among s a = all_at (λ x. Among x (committed w.log.entries)) s w.sender.sent k.sender.sent (all_at (λ x. Among x w.sender.sent) s i.stored m.stored a)

short : (w : World) → KeptWorld w → IsGeometry w.log.identity.geometry → ArePublished w → AreShort w
short w k legal p =
    let most = max_message w.log.identity.geometry in (
      each_weaker (Follows (committed w.log.entries) w.log.start) (λ r. IsWithin most r.assembly) (follows_short w k legal p w.log.start) w.log.readers k.log.readers,
      each_weaker (KeptImage w.sender.sent) (λ i. AllByRecursion (λ r. IsWithin most r.assembly) i.consumers) (image_short w k legal p) w.images k.images,
    )

pub always_short : Always AreShort
always_short = λ w v events o run.
    let both = every_wire events w v (opened w o) (opened_wire w o) run in
    short v both.0 both.1.geometry (published w v events o run)
