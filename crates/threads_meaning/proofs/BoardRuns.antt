-- A log that runs is a log of the model, and goes on as one.
use Rattle.std.proofs.Common.{◌≡◌, ℕ, max, List, [], ◌∷◌, ◌++◌, sym, refl, ap, ◌∙◌, subst, arith}
use Rattle.std.specs.Prelude.{slice_index}
use Rattle.atomic_table.specs.Table.{opening}
use Rattle.theory.specs.Entry.{committed}
use Rattle.theory.specs.Position.{Geometry}
use Rattle.theory.specs.Refusal.{is_closed, is_connected, limit_in}
use Rattle.publication.specs.declared.pass.Pass.{Pass}
use Rattle.publication.specs.Steps.{shown_position}
use Rattle.log_rule.specs.declared.rule.Key.{Key}
use Rattle.log_rule.specs.Claims.Packs.{consumer_place, limit_place, tail_place}
use Rattle.log_rule.specs.Says.{tail_shown}
use Rattle.log_memory.specs.Law.{StepsKeep}
use Rattle.log_memory.specs.Rule.{Board, passes_of, whole_seat}
use Rattle.model.specs.Log.{Log, LogEvent}
use Rattle.model.proofs.WorldSteps.{opened}
use Rattle.threads_meaning.specs.Law.{LogRun, alone, opened_log}
use Rattle.threads_meaning.specs.Modelled.{IsModel}
use Rattle.threads_meaning.specs.Running.{BeginsARun, RunsAreHonest, RunsGoOn, TablesAreStreams, TablesRun, stream_of}
use Rattle.threads_meaning.proofs.Looking.{Controls}
use Rattle.threads_meaning.proofs.Opening.{opens_as_model}
use Rattle.threads_meaning.proofs.Resting.{readers_rest}
use Rattle.threads_meaning.proofs.Running.{holds, kept_run, opened_room, steps_run}

-- ---- the control words alone

tail_same : (g : Geometry) (words after : List ℕ) → Controls after words → tail_shown g words ≡ tail_shown g after
tail_same g words after e =
    let a : slice_index words (tail_place 0) ≡ slice_index after (tail_place 0) = sym (e (tail_place 0) (omega arith)) in
    let b : slice_index words (tail_place 1) ≡ slice_index after (tail_place 1) = sym (e (tail_place 1) (omega arith)) in
    let c : slice_index words (tail_place 2) ≡ slice_index after (tail_place 2) = sym (e (tail_place 2) (omega arith)) in
    (λ i. max (max (shown_position g (a i)) (shown_position g (b i))) (shown_position g (c i)))

controlled : (key : Key) (gone : List ℕ) (words after : List ℕ) (ps : List Pass) (l : Log) → Controls after words → IsModel key gone words ps l → IsModel key gone after ps l
controlled key gone words after ps l e k = let limit = e limit_place (omega arith) in record {
  identity = k.identity;
  start = k.start;
  tail = k.tail ∙ tail_same key.identity.geometry words after e;
  limit = k.limit ∙ ap limit_in (sym limit);
  connected = k.connected ∙ ap is_connected (sym limit);
  closed = k.closed ∙ ap is_closed (sym limit);
  entries = k.entries;
  publishers = k.publishers;
  readers = readers_rest words after ps ps l.start l.cleaned (committed l.entries) l.readers k.readers record { words_same = λ j lt. e (consumer_place j) (omega arith); mine = k.readers.mine; keeper = k.readers.keeper };
}

pub tables_are_streams : TablesAreStreams
tables_are_streams t gone s l r = record {
  stream = controlled t.key gone s.words r.stream (passes_of s.views) l (λ j lt. sym (r.words.controls j lt));
  table = controlled t.key gone r.stream s.words (passes_of s.views) l (λ j lt. r.words.controls j lt);
}

-- ---- runs

pub tables_run : TablesRun
tables_run t gone left s s' events l running h =
    let run = steps_run t.key events gone left (stream_of t s h.before) (stream_of t s' h.after) l h.before.ruled ((tables_are_streams t gone s l h.before).stream running.model) h.steps in
    (run.0, run.1, record { ruled = h.after; model = (tables_are_streams t left s' run.0 h.after).table run.2 })

longer : (past events : List LogEvent) (old mid new : Log) → LogRun old past mid → LogRun mid events new → LogRun old (past ++ events) new
longer [] events old mid new a b = subst (λ (l : Log). LogRun l events new) a b
longer (e ∷ past) events old mid new a b = (a.0, a.1, longer past events a.0 mid new a.2 b)

pub runs_go_on : RunsGoOn
runs_go_on t gone left s s' past events l is h = let r = tables_run t gone left s s' events l is.running h in (r.0, r.1, record { running = r.2; opened = is.opened; run = longer past events (opened_log t.key) l r.0 is.run r.1 })

pub runs_are_honest : RunsAreHonest
runs_are_honest t gone s past l is = let kept = kept_run past (opened_log t.key) l (opened (alone (opened_log t.key)) is.opened).log (opened_room (opened_log t.key) is.opened) is.run in holds l kept.0 kept.1

pub begins_a_run : StepsKeep → BeginsARun
begins_a_run k t words slots identity begun rooms =
    let r = k.begins t words slots begun rooms in let s : Board = opening words slots (whole_seat t) in let o = opens_as_model t.key (stream_of t s r) identity r.ruled refl in
    record { running = record { ruled = r; model = (tables_are_streams t [] s (opened_log t.key) r).table o.1 }; opened = o.0; run = refl }
