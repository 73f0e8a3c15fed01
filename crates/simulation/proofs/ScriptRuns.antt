-- Lines of a script, one after the other.
use Rattle.std.proofs.Common.{Option, ◌≡◌, ◌∙◌, ℕ, ◌<◌, ◌≤◌, get_or, inl, inr, ◌+◌, List, [], ◌∷◌, ◌++◌, sym, ap, subst, refl, append_assoc, append-nil, length, take}
use Rattle.std.proofs.lemmas.List.{map-append, take_all}
use Rattle.std.proofs.lemmas.Grind.{flat_map-append}
use Rattle.std.specs.List.{flat_map}
use Rattle.std.specs.Prelude.{◌%◌, slice_index, sum}
use Rattle.theory.specs.Bytes.{Identity, IsIdentity}
use Rattle.theory.specs.Position.{Geometry, IsGeometry, max_position}
use Rattle.theory.specs.Tiling.{share_of}
use Rattle.shared_log.specs.declared.fault.LogError.TheVariants.{Start}
use Rattle.one_hand.specs.Stream.{Stream}
use Rattle.one_hand.proofs.Steps.{one_more}
use Rattle.shared_log.specs.declared.book.Book.{Book}
use Rattle.script.specs.Meaning.{Opening, CommandContent, ScriptContent, content_of, contents_of, group_in}
use Rattle.script.specs.declared.command.Command.{Command}
use Rattle.script_meaning.specs.Answers.{Answers}
use Rattle.position.specs.Openings.{IsStart}
use Rattle.script_meaning.specs.Output.{AlwaysCounted, AlwaysInBounds, AlwaysPolled, AlwaysRuns, AnswersAll, IsOutputOf, IsOutputOfRun, PrintsBook, geometry_of, identity_of}
use Rattle.script_meaning.specs.LineContents.{Open, LineContent, Shares}
use Rattle.simulation.specs.Lines.{line_content, line_contents}
use Rattle.script_meaning.specs.Published.{Played}
use Rattle.script_meaning.specs.ScriptState.{ScriptState, entries_of, opened_state}
use Rattle.script_meaning.specs.Standing.{Begins, IsPlayed}
use Rattle.simulation.specs.Books.{ShowsBook}
use Rattle.simulation.specs.Simulated.{Answered, IsAnswered, RepresentsState, Simulated, StandsSomewhere}
use Rattle.simulation.specs.Runs.{Continued, Continues, RunsTo}
use Rattle.simulation.specs.declared.line.Line.{Line}
use Rattle.simulation.specs.declared.line.Line.TheVariants as lines

answers_snoc : (old mid new : ScriptState) (ps : List Played) (p : Played) → AnswersAll old ps mid → Answers mid p.command p.lines new → AnswersAll old (ps ++ p ∷ []) new
answers_snoc old mid new [] p h k = (new, subst (λ (s : ScriptState). Answers s p.command p.lines new) h k, refl)
answers_snoc old mid new (q ∷ ps) p h k = (h.0, h.1, answers_snoc h.0 mid new ps p h.2 k)

answers_join : (old mid new : ScriptState) (ps qs : List Played) → AnswersAll old ps mid → AnswersAll mid qs new → AnswersAll old (ps ++ qs) new
answers_join old mid new [] qs h k = subst (λ (s : ScriptState). AnswersAll s qs new) h k
answers_join old mid new (p ∷ ps) qs h k = (h.0, h.1, answers_join h.0 mid new ps qs h.2 k)

abbrev lines_in : List Played → List LineContent
lines_in played = flat_map (λ p. p.lines) played

lines_snoc : (ps : List Played) (p : Played) → lines_in (ps ++ p ∷ []) ≡ lines_in ps ++ p.lines
lines_snoc ps p = flat_map-append (λ (q : Played). q.lines) ps (p ∷ []) ∙ ap (λ (ls : List LineContent). lines_in ps ++ ls) (append-nil p.lines)

-- a state to which lines lead from one that a script led to
played_on : (s t : ScriptState) (ps : List Played) → IsPlayed s → AnswersAll s ps t → IsPlayed t
played_on s t ps h k = record { identity = h.identity; group = h.group; start = h.start; readers = h.readers; begins = h.begins; played = h.played ++ ps; answered = answers_join (opened_state h.identity h.group h.start h.readers) s t h.played ps h.answered k }

continued_snoc : (old : ScriptState) (os : List CommandContent) (o : CommandContent) (before mid after : List LineContent) (there new : Simulated) → IsPlayed old → Continued old os before mid there → ((s : ScriptState) → RepresentsState there s → IsPlayed s → Answered s o mid after new) → Continued old (os ++ o ∷ []) before after new
continued_snoc old os o before mid after there new standing h step =
    let k = step h.state h.shows (played_on old h.state h.played standing h.answered) in
    let p : Played = record { command = o; lines = k.lines } in
    record {
      played = h.played ++ p ∷ [];
      state = k.state;
      of_commands = map-append (λ (q : Played). q.command) h.played (p ∷ []) ∙ ap (λ (xs : List CommandContent). xs ++ o ∷ []) h.of_commands;
      answered = answers_snoc old h.state k.state h.played p h.answered k.answers;
      printed = k.printed ∙ ap (λ (ls : List LineContent). ls ++ k.lines) h.printed ∙ append_assoc before (lines_in h.played) k.lines ∙ ap (λ (ls : List LineContent). before ++ ls) (sym (lines_snoc h.played p));
      shows = k.shows;
    }

pub none_played : (simulation : Simulated) (ls : List Line) → Continues simulation [] ls ls simulation
none_played simulation ls s h standing = record { played = []; state = s; of_commands = refl; answered = refl; printed = sym (append-nil (line_contents ls)); shows = h }

pub one_more_played : (old mid new : Simulated) (cs : List Command) (c : Command) (before there after : List Line) → Continues old (contents_of cs) before there mid → IsAnswered mid (content_of c) there after new → Continues old (contents_of (cs ++ c ∷ [])) before after new
one_more_played old mid new cs c before there after h step s shows standing =
    subst (λ (os : List CommandContent). Continued s os (line_contents before) (line_contents after) new) (sym (map-append content_of cs (c ∷ [])))
    (continued_snoc s (contents_of cs) (content_of c) (line_contents before) (line_contents there) (line_contents after) mid new standing (h s shows standing) step)

-- ---- the book

-- a log that is opened so
abbrev opening_of : Identity → ℕ → ℕ → Opening
opening_of i start readers = record { term_length = i.geometry.term_length; mtu = i.geometry.mtu; initial_term_id = i.geometry.initial_term_id; start = start; session = i.session; stream = i.stream; readers = readers }

shows_book : (s : ScriptState) (b : Book) → length b.shares ≡ 8 → ((k : ℕ) → k < 8 → slice_index s.log.shares k ≡ share_of k (entries_of s)) → ShowsBook s.log b → PrintsBook s (Shares b.start b.tail b.shares)
shows_book s b eight counted h = record {
  shares = b.shares;
  eight = eight;
  each = λ k low. ap (λ (xs : List ℕ). slice_index xs k) h.shares ∙ counted k low;
  whole = ap (λ (n : ℕ). n + sum b.shares) (sym h.start) ∙ h.whole ∙ h.tail;
  shown = ap (λ (n : ℕ). Shares n b.tail b.shares) h.start ∙ ap (λ (n : ℕ). Shares s.log.start n b.shares) h.tail;
}

all_printed : (before played book : List LineContent) → ((before ++ Open ∷ []) ++ played) ++ book ≡ before ++ Open ∷ (played ++ book)
all_printed before played book = append_assoc (before ++ Open ∷ []) played book ∙ append_assoc before (Open ∷ []) (played ++ book)

pub runs_to : AlwaysCounted → (old new : Simulated) (i : Identity) (start readers : ℕ) (os : List CommandContent) (before opened there after : List Line) (b : Book) → length b.shares ≡ 8 → Begins i start → RepresentsState old (opened_state i (group_in os) start readers) → opened ≡ before ++ lines.Open ∷ [] → Continues old os opened there new → ShowsBook new.log b → after ≡ there ++ lines.Book b ∷ [] → RunsTo i start readers os (line_contents before) (line_contents after)
runs_to counted old new i start readers os before opened there after b eight begins shows first h book e =
    let k = h (opened_state i (group_in os) start readers) shows (record { identity = i; group = group_in os; start = start; readers = readers; begins = begins; played = []; answered = refl }) in
    record {
      played = k.played;
      last = k.state;
      of_commands = k.of_commands;
      answered = k.answered;
      book = Shares b.start b.tail b.shares;
      shown = shows_book k.state b eight (counted (opening_of i start readers) (group_in os) k.played k.state k.answered) (subst (λ (l : Stream). ShowsBook l b) (sym k.shows.log) book);
      printed =
          ap line_contents e
          ∙ map-append line_content there (lines.Book b ∷ [])
          ∙ ap (λ (ls : List LineContent). ls ++ Shares b.start b.tail b.shares ∷ [])
          (k.printed ∙ ap (λ (ls : List LineContent). ls ++ lines_in k.played) (ap line_contents first ∙ map-append line_content before (lines.Open ∷ [])))
          ∙ all_printed (line_contents before) (lines_in k.played) (Shares b.start b.tail b.shares ∷ []);
    }

pub next_played : (old mid new : Simulated) (cs : List Command) (k : ℕ) (c : Command) (before there after : List Line) → k < length cs → c ≡ get_or cs k c → Continues old (contents_of (take k cs)) before there mid → IsAnswered mid (content_of c) there after new → Continues old (contents_of (take (k + 1) cs)) before after new
next_played old mid new cs k c before there after below e h step =
    subst (λ (xs : List Command). Continues old (contents_of xs) before after new) (sym (one_more cs k c below e))
    (one_more_played old mid new (take k cs) c before there after h step)

-- behind the last of them all are played
pub all_played : (old mid : Simulated) (cs : List Command) (k : ℕ) (before there : List Line) → length cs ≤ k → Continues old (contents_of (take k cs)) before there mid → Continues old (contents_of cs) before there mid
all_played old mid cs k before there past h = subst (λ (xs : List Command). Continues old (contents_of xs) before there mid) (take_all k cs past) h

-- ---- the whole script

runs_from : (v : Simulated) (i : Identity) (group : Option ℕ) (start readers : ℕ) (os : List CommandContent) (before after : List LineContent) → RepresentsState v (opened_state i group start readers) → RunsTo v.log.identity v.log.start readers os before after → RunsTo i start readers os before after
runs_from v i group start readers os before after h k =
    let same : i ≡ v.log.identity = ap (λ l. l.identity) h.log in
    let there : start ≡ v.log.start = ap (λ l. l.start) h.log in
    subst (λ (j : Identity). RunsTo j start readers os before after) (sym same)
    (subst (λ (n : ℕ). RunsTo v.log.identity n readers os before after) (sym there) k)

plays_on : (script : ScriptContent) (after : List LineContent) → IsGeometry (geometry_of script.log) → IsStart (geometry_of script.log) script.log.start → IsIdentity (identity_of script.log) → AlwaysPolled → AlwaysRuns → AlwaysInBounds → RunsTo (identity_of script.log) script.log.start script.log.readers script.commands [] after → IsOutputOfRun script after
plays_on script after legal starts identity always runs within h = record {
  legal = legal;
  starts = starts;
  played = h.played;
  commands = h.of_commands;
  last = h.last;
  answered = h.answered;
  book = h.book;
  shown = h.shown;
  printed = h.printed;
  polled = λ done later parts. (always script.log (group_in script.commands) h.played h.last legal identity starts h.answered done later parts).0;
  read = λ done later parts. (always script.log (group_in script.commands) h.played h.last legal identity starts h.answered done later parts).1;
  behind = λ done later s parts answered. record { runs = runs script.log (group_in script.commands) done s legal identity starts answered; bounds = (within script.log (group_in script.commands) done s answered).0 };
  order = (within script.log (group_in script.commands) h.played h.last h.answered).1;
}

pub stage_plays : (script : ScriptContent) (v : Simulated) (j : Identity) (start readers : ℕ) (after : List LineContent) → j ≡ identity_of script.log → start ≡ script.log.start → readers ≡ script.log.readers → IsGeometry (geometry_of script.log) → IsStart (geometry_of script.log) script.log.start → IsIdentity (identity_of script.log) → AlwaysPolled → AlwaysRuns → AlwaysInBounds → RepresentsState v (opened_state j (group_in script.commands) start readers) → RunsTo v.log.identity v.log.start script.log.readers script.commands [] after → IsOutputOf script after
stage_plays script v j start readers after same there many legal starts identity always goes within shows runs =
    let group = group_in script.commands in
    let here : RepresentsState v (opened_state (identity_of script.log) group script.log.start script.log.readers) =
    subst (λ (i : Identity). RepresentsState v (opened_state i group script.log.start script.log.readers)) same
    (subst (λ (n : ℕ). RepresentsState v (opened_state j group n script.log.readers)) there (subst (λ (n : ℕ). RepresentsState v (opened_state j group start n)) many shows)) in
    inr (plays_on script after legal starts identity always goes within (runs_from v (identity_of script.log) group script.log.start script.log.readers script.commands [] after here runs))

-- the log can't be opened at its start
pub refused_start : (script : ScriptContent) (g : Geometry) (before after : List Line) → g ≡ geometry_of script.log → IsGeometry g → ((script.log.start % 32 ≡ 0) × (script.log.start < max_position g) → ⊥) → before ≡ [] → after ≡ before ++ lines.BadLog Start ∷ [] → IsOutputOf script (line_contents after)
refused_start script g before after made legal refused none e =
    inl (inr (inr (
      subst IsGeometry made legal,
      subst (λ (h : Geometry). (script.log.start % 32 ≡ 0) × (script.log.start < max_position h) → ⊥) made refused,
      ap line_contents (e ∙ ap (λ (ls : List Line). ls ++ lines.BadLog Start ∷ []) none),
    )))

-- ---- what a line may be asked of

-- where lines were played, one may be played
pub stands_on : (old mid : Simulated) (os : List CommandContent) (before there : List Line) → StandsSomewhere old → Continues old os before there mid → StandsSomewhere mid
stands_on old mid os before there h k =
    let n = k h.0 h.1 h.2 in
    (n.state, n.shows, played_on h.0 n.state n.played h.2 n.answered)

pub begins_somewhere : (v : Simulated) (i : Identity) (group : Option ℕ) (start readers : ℕ) → Begins i start → RepresentsState v (opened_state i group start readers) → StandsSomewhere v
begins_somewhere v i group start readers begins shows = (opened_state i group start readers, shows, record { identity = i; group = group; start = start; readers = readers; begins = begins; played = []; answered = refl })

pub begins_at : (v : Simulated) (i : Identity) (group : Option ℕ) (start readers : ℕ) → RepresentsState v (opened_state i group start readers) → IsGeometry i.geometry → IsIdentity i → IsStart i.geometry start → Begins v.log.identity v.log.start
begins_at v i group start readers h legal identity starts =
    let same : i ≡ v.log.identity = ap (λ (l : Stream). l.identity) h.log in
    let there : start ≡ v.log.start = ap (λ (l : Stream). l.start) h.log in
    subst (λ (j : Identity). Begins j v.log.start) same (subst (λ (n : ℕ). Begins i n) there (record { geometry = legal; identity = identity; unit = starts.0; below = starts.1 }))
