use Rattle.std.proofs.Common.{◌≡◌, ℕ, ◌+◌, ◌≤◌, length, true}
use Rattle.theory.specs.Position.{cuts_of, framed_length, max_message, max_position}
use Rattle.publication.specs.declared.pass.Pass.{Pass}
use Rattle.publication.specs.Steps.{Moved, geometry_of}
use Rattle.publication.specs.Claims.{TookMore}
use Rattle.publication.specs.Offers.{FillsAll, HasBlanks}
use Rattle.publication.proofs.writing.write_message.Given as goal

-- what is left fits the open frames that are left, and who fills those fills all
abbrev pub invariant-loop-rest : goal.invariant-loop-rest
invariant-loop-rest g l =
    let old : Pass = g.W.WordCalls.pass_of l.initial.words l.initial.pass in
    let now : Pass = g.W.WordCalls.pass_of l.words l.pass in
    record {
      moved : Moved g.W.WordCalls.fits g.W.WordCalls.pass_of g.W.WordCalls.name g.W.WordCalls.id l.initial.words l.initial.pass l.words l.pass;
      took : (done : ℕ) × TookMore g.W.WordCalls.took g.W.WordCalls.pass_of l.initial.words l.initial.pass l.words l.pass done × (done + length (cuts_of (geometry_of old) (length l.rest)) ≡ length (cuts_of (geometry_of old) (length l.message)));
      shape : geometry_of now ≡ geometry_of old;
      blanks : HasBlanks now l.at (cuts_of (geometry_of now) (length l.rest));
      fills : (w : Pass) → FillsAll now l.first l.at l.rest w → FillsAll old true l.start l.message w;
      in_stream : l.at + framed_length (geometry_of old) (length l.rest) ≤ max_position (geometry_of old);
      short : length l.rest ≤ max_message (geometry_of old);
    }

abbrev pub decreases-loop-rest : goal.decreases-loop-rest
decreases-loop-rest g l = length l.rest
