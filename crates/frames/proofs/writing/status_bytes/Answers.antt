use Rattle.std.proofs.Common.{rules, ◌≡◌, ◌++◌, replicate, SFits, ap, ◌∙◌}
use Rattle.std.specs.Int.{w32, w64}
use Rattle.theory.specs.Wire.{front, le32, le64}
use Rattle.frames.specs.Frames.{asks_of}
use Rattle.frames.proofs.Puts.{put_signed, put_signed_long}
use Rattle.frames.proofs.writing.status_bytes.Goals as goal

pub returns : goal.returns
returns c =
    let x = c.args.status.now in
    let s0 : c.put_front.new.bytes ≡ front 36 (asks_of c.args.asks) 3 ++ replicate 28 0 = c.put_front.ensures ∙ ap (λ flags. front 36 flags 3 ++ replicate 28 0) c.asks_flags.ensures in
    let f1 : SFits w32 x.session = search rules in
    let s1 : c.put_i32.new.bytes ≡ front 36 (asks_of c.args.asks) 3 ++ le32 x.session ++ replicate 24 0 = put_signed 8 12 _ _ _ x.session f1 s0 c.put_i32.ensures in
    let f2 : SFits w32 x.stream = search rules in
    let s2 : c.put_i32-2.new.bytes ≡ front 36 (asks_of c.args.asks) 3 ++ le32 x.session ++ le32 x.stream ++ replicate 20 0 = put_signed 12 16 _ _ _ x.stream f2 s1 c.put_i32-2.ensures in
    let f3 : SFits w32 x.term_id = search rules in
    let s3 : c.put_i32-3.new.bytes ≡ front 36 (asks_of c.args.asks) 3 ++ le32 x.session ++ le32 x.stream ++ le32 x.term_id ++ replicate 16 0 = put_signed 16 20 _ _ _ x.term_id f3 s2 c.put_i32-3.ensures in
    let f4 : SFits w32 x.term_offset = search rules in
    let s4 : c.put_i32-4.new.bytes ≡ front 36 (asks_of c.args.asks) 3 ++ le32 x.session ++ le32 x.stream ++ le32 x.term_id ++ le32 x.term_offset ++ replicate 12 0 = put_signed 20 24 _ _ _ x.term_offset f4 s3 c.put_i32-4.ensures in
    let f5 : SFits w32 x.window = search rules in
    let s5 : c.put_i32-5.new.bytes ≡ front 36 (asks_of c.args.asks) 3 ++ le32 x.session ++ le32 x.stream ++ le32 x.term_id ++ le32 x.term_offset ++ le32 x.window ++ replicate 8 0 = put_signed 24 28 _ _ _ x.window f5 s4 c.put_i32-5.ensures in
    let f6 : SFits w64 x.receiver = search rules in
    let s6 : c.put_i64.new.bytes ≡ front 36 (asks_of c.args.asks) 3 ++ le32 x.session ++ le32 x.stream ++ le32 x.term_id ++ le32 x.term_offset ++ le32 x.window ++ le64 x.receiver = put_signed_long 28 36 _ _ _ x.receiver f6 s5 c.put_i64.ensures in
    s6
