-- When a stream is cut off: its image is closed, or stands, before all of it is there up to an announced end, or it ends broken off.
use Rattle.std.specs.Prelude.{Bool, ◌&&◌, ◌||◌, not, Option, is_some}
use Rattle.subscriber.specs.Images.{first_cut}
use Rattle.subscriber.specs.Standing.{is_broken_off, is_whole}
use Rattle.subscriber.specs.declared.images.CutOff.{CutOff}
use Rattle.subscriber.specs.declared.images.Loss.{Loss}
use Rattle.subscriber.specs.declared.images.session.Session.{Session}
use Rattle.subscriber.specs.declared.images.session.Stand.{Stand}

-- an image may be closed, behind which this is missing: it wasn't told as lost, and was never heard, or all of its stream is there, which
-- wasn't broken off
abbrev pub is_uncut : Session → Stand → Option Loss → Bool
is_uncut j x loss = (not j.lost && not (is_some loss)) && (not j.follower.heard || is_whole x)

-- what is cut off at its place where it stands so and is closed
abbrev pub cut_behind : Session → Stand → Option Loss → Option CutOff
cut_behind j x loss = first_cut j.images.cut (not (is_uncut j x loss)) (record { session = j.opening.session; position = x.place })

-- what is cut off at its place where its image stands: it was told as lost, or is there up to an end at which its stream is broken off
abbrev pub cut_of : Session → Option CutOff
cut_of j = first_cut j.images.cut (j.lost || is_broken_off j.stood) (record { session = j.opening.session; position = j.stood.place })

abbrev pub has_lost : Session → Bool
has_lost j = is_some (cut_of j)
