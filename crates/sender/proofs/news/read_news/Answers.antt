use Rattle.frames.specs.Frames.{wire}
use Rattle.sender.specs.FirstNews.{news_of}
use Rattle.sender.proofs.NewsLemmas.{told_first, front_fault}
use Rattle.sender.proofs.news.read_news.Goals as goal

pub returns-in-Ok-read_frame : goal.returns-in-Ok-read_frame
returns-in-Ok-read_frame c =
    let found = c.in-Ok.ensures.found in
    told_first c.args.identity.now c.args.bytes.now found.0 (wire c.in-Ok-read_frame.frame) c.in-Ok-read_frame.field-0-1 (news_of c.first_news.result) found.1 c.in-Ok-read_frame.ensures.found c.first_news.ensures

pub returns-in-Err-read_frame : goal.returns-in-Err-read_frame
returns-in-Err-read_frame c = front_fault c.args.bytes.now c.in-Err-read_frame.error c.in-Err-read_frame.ensures.fault
