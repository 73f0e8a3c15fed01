-- The lines that tell what is new along a destination.
use Rattle.std.specs.Prelude.{ℕ, Bool, ◌&&◌, is_some, List, [], ◌++◌, Option, None, Some, if◌then◌else◌}
use Rattle.std.specs.declared.net.SocketAddr.{SocketAddr}
use Rattle.peer.specs.declared.attendance.Attendance.{Attendance}
use Rattle.peer.specs.declared.attended.Behind.{Behind}
use Rattle.publisher.specs.Endings.{heard_along}
use Rattle.publisher.specs.Progress.{told_of}
use Rattle.publisher.specs.Seeing.{ChannelDestination, label_of}
use Rattle.publisher.specs.Texts.{change_in, line_at}
use Rattle.publisher.specs.declared.destination.News.{News}
use Rattle.publisher.specs.declared.telling.Line.{Line}
use Rattle.publisher.specs.declared.telling.Line.TheVariants as lines

-- another receiver is heard than before
abbrev pub change_line : Bool → Attendance → Option Line
change_line changed a = if changed then change_in a else None

-- nobody was heard
abbrev pub alone_line : Bool → Option Line
alone_line alone = if alone then Some lines.Alone else None

-- one of several is silent
abbrev pub quiet_line : Bool → Option SocketAddr → Option Line
quiet_line quiet label = if quiet && is_some label then Some lines.Quiet else None

-- one is left behind, which stands here, so far
abbrev pub behind_line : SocketAddr → ℕ → Option Behind → Option Line
behind_line peer position None = None
behind_line peer position (Some b) = Some (lines.LeftBehind peer position b)

-- and is heard again
abbrev pub back_line : SocketAddr → Option Behind → Option Line
back_line peer None = None
back_line peer (Some b) = Some (lines.CameBack peer b)

-- a line, if there is one
abbrev pub text_if : Option SocketAddr → Option Line → List ℕ
text_if label None = []
text_if label (Some line) = line_at label line

-- what is heard there
abbrev pub heard_text : {D : Type 0} → ChannelDestination D → News → List ℕ
heard_text w news =
    text_if (label_of w) (change_line news.changed (heard_along w))
    ++ text_if (label_of w) (alone_line news.alone)
    ++ text_if (label_of w) (quiet_line news.quiet (label_of w))

-- who is left behind there
abbrev pub behind_text : {D : Type 0} → ChannelDestination D → News → List ℕ
behind_text w news = text_if None (behind_line w.peer (told_of (heard_along w)) news.behind) ++ text_if None (back_line w.peer news.back)

-- the one, and then the other
abbrev pub news_text : {D : Type 0} → ChannelDestination D → News → List ℕ
news_text w news = heard_text w news ++ behind_text w news
