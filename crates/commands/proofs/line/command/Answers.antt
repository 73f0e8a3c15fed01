use Rattle.std.proofs.Common.{◌≡◌, ◌∙◌, List, [], ap, map, subst, arith}
use mathlib.Core.List.{cons≢nil}
use Rattle.clap.specs.Words.{Text, fault_of}
use Rattle.command_line.specs.Lines.{publish_app, subscribe_app}
use Rattle.command_line.specs.Readers.{reader_of}
use Rattle.commands.specs.Statuses.{IsStatusOf, RefusesPublish, RefusesSubscribe}
use Rattle.subscriber.specs.declared.ending.Ending.TheVariants.{Whole}
use Rattle.commands.specs.Done.{HasPlanBy, PublishesBy, SubscribesBy, SubscribesShortBy}
use Rattle.commands.proofs.Ended.{done_by, no_version, short_by}
use Rattle.commands.proofs.LineStatuses.{by_reader, refused_by, texts_behind, version_status}
use Rattle.commands.proofs.line.command.Goals as goal

pub returns-in-Version : goal.returns-in-Version
returns-in-Version g c =
    let words = map (λ s. s.now) c.args.words.now in
    let behind = texts_behind c.args.words.now c.line_words-line.result.now c.line_words-line.ensures in
    record {
      status = by_reader words _ c.shown.result (c.in-Version.ensures ∙ ap reader_of behind) (version_status c.shown.result c.shown.ensures);
      refused = λ two. absurd (omega (arith, c.shown.ensures, two));
      done = done_by words _ c.shown.result _ _ _ (c.in-Version.ensures ∙ ap reader_of behind) (λ none. absurd (cons≢nil none));
      short = λ three. absurd (no_version c.shown.result c.shown.ensures three);
    }

pub returns-in-PublishHelp-clause-status : goal.returns-in-PublishHelp-clause-status
returns-in-PublishHelp-clause-status g c =
    let words = map (λ s. s.now) c.args.words.now in
    let behind = texts_behind c.args.words.now c.line_words-line.result.now c.line_words-line.ensures in
    by_reader words _ c.publish_command.result (c.in-PublishHelp.ensures ∙ ap reader_of behind) c.publish_command.ensures.status

pub returns-in-PublishHelp-clause-refused : goal.returns-in-PublishHelp-clause-refused
returns-in-PublishHelp-clause-refused g c =
    let words = map (λ s. s.now) c.args.words.now in
    let behind = texts_behind c.args.words.now c.line_words-line.result.now c.line_words-line.ensures in
    λ two. refused_by words _ (c.in-PublishHelp.ensures ∙ ap reader_of behind) (c.publish_command.ensures.refused two)

pub returns-in-PublishHelp-clause-done : goal.returns-in-PublishHelp-clause-done
returns-in-PublishHelp-clause-done g c =
    let words = map (λ s. s.now) c.args.words.now in
    let behind = texts_behind c.args.words.now c.line_words-line.result.now c.line_words-line.ensures in
    done_by words _ c.publish_command.result _ _ _ (c.in-PublishHelp.ensures ∙ ap reader_of behind) c.publish_command.ensures.done

pub returns-in-PublishHelp-clause-short : goal.returns-in-PublishHelp-clause-short
returns-in-PublishHelp-clause-short g c =
    let words = map (λ s. s.now) c.args.words.now in
    let behind = texts_behind c.args.words.now c.line_words-line.result.now c.line_words-line.ensures in
    short_by words _ c.publish_command.result _ _ (c.in-PublishHelp.ensures ∙ ap reader_of behind) c.publish_command.ensures.short

pub returns-in-SubscribeHelp-clause-refused : goal.returns-in-SubscribeHelp-clause-refused
returns-in-SubscribeHelp-clause-refused g c =
    let words = map (λ s. s.now) c.args.words.now in
    let behind = texts_behind c.args.words.now c.line_words-line.result.now c.line_words-line.ensures in
    λ two. refused_by words _ (c.in-SubscribeHelp.ensures ∙ ap reader_of behind) (c.subscribe_command.ensures.refused two)

pub returns-in-SubscribeHelp-clause-done : goal.returns-in-SubscribeHelp-clause-done
returns-in-SubscribeHelp-clause-done g c =
    let words = map (λ s. s.now) c.args.words.now in
    let behind = texts_behind c.args.words.now c.line_words-line.result.now c.line_words-line.ensures in
    done_by words _ c.subscribe_command.result _ _ _ (c.in-SubscribeHelp.ensures ∙ ap reader_of behind) c.subscribe_command.ensures.done

pub returns-in-SubscribeHelp-clause-short : goal.returns-in-SubscribeHelp-clause-short
returns-in-SubscribeHelp-clause-short g c =
    let words = map (λ s. s.now) c.args.words.now in
    let behind = texts_behind c.args.words.now c.line_words-line.result.now c.line_words-line.ensures in
    short_by words _ c.subscribe_command.result _ _ (c.in-SubscribeHelp.ensures ∙ ap reader_of behind) c.subscribe_command.ensures.short

pub returns-in-Publish : goal.returns-in-Publish
returns-in-Publish g c =
    let words = map (λ s. s.now) c.args.words.now in
    let behind = texts_behind c.args.words.now c.line_words-line.result.now c.line_words-line.ensures in
    let is = c.in-Publish.ensures ∙ ap reader_of behind in
    record {
      status = by_reader words _ c.publish_command-in-Publish.result is (subst (λ (ws : List Text). IsStatusOf (fault_of publish_app ws) c.publish_command-in-Publish.result) behind c.publish_command-in-Publish.ensures.status);
      refused = λ two. refused_by words _ is (subst (λ (ws : List Text). RefusesPublish ws) behind (c.publish_command-in-Publish.ensures.refused two));
      done = done_by words _ c.publish_command-in-Publish.result _ _ _ is (subst (λ (ws : List Text). fault_of publish_app ws ≡ [] → c.publish_command-in-Publish.result ≡ 0 → PublishesBy ws (g.R.Read.remaining c.args.input)) behind c.publish_command-in-Publish.ensures.done);
      short = short_by words _ c.publish_command-in-Publish.result _ _ is (λ three. subst HasPlanBy behind (c.publish_command-in-Publish.ensures.short three));
    }

pub returns-in-Subscribe : goal.returns-in-Subscribe
returns-in-Subscribe g c =
    let words = map (λ s. s.now) c.args.words.now in
    let behind = texts_behind c.args.words.now c.line_words-line.result.now c.line_words-line.ensures in
    let is = c.in-Subscribe.ensures ∙ ap reader_of behind in
    record {
      status = by_reader words _ c.subscribe_command-in-Subscribe.result is (subst (λ (ws : List Text). IsStatusOf (fault_of subscribe_app ws) c.subscribe_command-in-Subscribe.result) behind c.subscribe_command-in-Subscribe.ensures.status);
      refused = λ two. refused_by words _ is (subst (λ (ws : List Text). RefusesSubscribe ws) behind (c.subscribe_command-in-Subscribe.ensures.refused two));
      done = done_by words _ c.subscribe_command-in-Subscribe.result _ _ _ is (subst (λ (ws : List Text). fault_of subscribe_app ws ≡ [] → c.subscribe_command-in-Subscribe.result ≡ 0 → SubscribesBy ws (g.W.Write.contents c.args.output.now) (g.W.Write.contents c.subscribe_command-in-Subscribe.new.output) Whole) behind c.subscribe_command-in-Subscribe.ensures.done);
      short = short_by words _ c.subscribe_command-in-Subscribe.result _ _ is (λ three. subst (λ (ws : List Text). SubscribesShortBy ws (g.W.Write.contents c.args.output.now) (g.W.Write.contents c.subscribe_command-in-Subscribe.new.output)) behind (c.subscribe_command-in-Subscribe.ensures.short three));
    }

pub returns-in-Driver : goal.returns-in-Driver
returns-in-Driver g c =
    let words = map (λ s. s.now) c.args.words.now in
    let behind = texts_behind c.args.words.now c.line_words-line.result.now c.line_words-line.ensures in
    let is = c.in-Driver.ensures ∙ ap reader_of behind in
    record {
      status = by_reader words _ c.driver_command.result is c.driver_command.ensures.status;
      refused = λ two. refused_by words _ is (c.driver_command.ensures.refused two);
      done = done_by words _ c.driver_command.result _ _ _ is c.driver_command.ensures.done;
      short = short_by words _ c.driver_command.result _ _ is c.driver_command.ensures.short;
    }
