-- What the first frame of a datagram tells a sender.
use Rattle.std.specs.Prelude.{◌≡◌, [], ◌∷◌}
use Rattle.theory.specs.Wire.{NAK, SM, Status, Wire}
use Rattle.theory.specs.Bytes.{Identity}
use Rattle.frames.specs.Frames.{nak_of, status_of}
use Rattle.sender.specs.Cycling.{IsOwn, NewsContent, Says, AsksSetup, Misses, TellNothing, TellsNothing, Unreadable}
use Rattle.sender.specs.declared.news.News.{News}
use Rattle.sender.specs.declared.news.News.TheVariants as heard

abbrev pub news_of : News → NewsContent
news_of (heard.Says f) = Says (status_of f)
news_of heard.AsksSetup = AsksSetup
news_of (heard.Misses f) = Misses (nak_of f)
news_of heard.TellsNothing = TellsNothing
news_of (heard.Unreadable fault) = Unreadable fault

abbrev pub FirstTells : Identity → Wire → NewsContent → Type 0
FirstTells i w (Says f) = (w ≡ SM 0 f) × IsOwn i f.session f.stream
FirstTells i w AsksSetup = (f : Status) × (w ≡ SM 128 f) × IsOwn i f.session f.stream
FirstTells i w (Misses f) = (w ≡ NAK f) × IsOwn i f.session f.stream
FirstTells i w TellsNothing = TellNothing i (w ∷ [])
FirstTells i w (Unreadable fault) = ⊥
