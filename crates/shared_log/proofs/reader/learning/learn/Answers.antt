use Rattle.std.proofs.Common.{◌≡◌, ◌++◌, List, [], ap, sym, ◌∙◌, subst, refl, append-nil}
use Rattle.publication.specs.declared.pass.FrameWords.{FrameWords}
use Rattle.publication.specs.declared.pass.Pass.{Pass}
use Rattle.shared_log.specs.Steps.Handles.{PublisherValue}
use Rattle.shared_log.specs.Steps.Readers.{SameSeat}
use Rattle.shared_log.specs.Readers.{Learns, ReaderValue}
use Rattle.shared_log.proofs.Holding.{reader_kept}
use Rattle.shared_log.proofs.Joined.{still_alone}
use Rattle.shared_log.proofs.Told.{learns_by, told, told_reading}
use Rattle.shared_log.proofs.reader.learning.learn.Goals as goal

abbrev frames_of : (c : goal.After-learn) → List FrameWords
frames_of c = c.publisher.inside.handle.pass.pass.work.frames ++ []

after_of : (c : goal.After-learn) → c.learn.new.reader.pass ≡ told c.reader.inside.handle.pass.pass (frames_of c)
after_of c = ap (λ (p : PublisherValue). p.pass) c.learn.ensures.told

seat_of : (c : goal.After-learn) → SameSeat c.reader.inside.handle.pass c.learn.new.reader
seat_of c = subst (SameSeat c.reader.inside.handle.pass) (sym c.learn.ensures.told) record { of = refl; seat = refl; sure = refl; controls = λ one. refl; freed = refl }

pub invariant_of-reader : goal.invariant_of-reader
invariant_of-reader c = reader_kept c.reader.invariant (seat_of c) (subst (λ (u : Pass). u ≡ record c.reader.inside.handle.pass.pass { reading = u.reading }) (sym (after_of c)) refl) (told_reading _ _ (frames_of c) _ _ _ _ c.reader.invariant.reading (after_of c))

pub returns-clause-learns : goal.returns-clause-learns
returns-clause-learns c =
    let r : ReaderValue = record { held = c.reader.inside.handle.pass; place = c.reader.inside.place; number = c.reader.inside.number; position = c.reader.inside.position; read_to = c.reader.inside.read_to } in
    let all : frames_of c ≡ c.args.publisher.now.pass.work.frames = append-nil c.publisher.inside.handle.pass.pass.work.frames ∙ ap (λ (p : PublisherValue). p.pass.work.frames) c.publisher.view_is in
    subst (λ (x : ReaderValue). Learns x c.args.publisher.now.pass record { held = c.learn.new.reader; place = c.reader.inside.place; number = c.reader.inside.number; position = c.reader.inside.position; read_to = c.reader.inside.read_to }) c.reader.view_is
    (learns_by r c.learn.new.reader c.args.publisher.now.pass (frames_of c) c.reader.invariant.reading (seat_of c) (after_of c) all)

pub returns-clause-alone : goal.returns-clause-alone
returns-clause-alone c alone = let a = (returns-clause-learns c).stays in still_alone c.args.log.now c.args.reader.now _ alone a.pass (ap (λ (x : ReaderValue). x.place) a.same)
