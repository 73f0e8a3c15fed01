use Rattle.std.proofs.Common.{rules, ◌≡◌, ◌++◌, replicate, SFits}
use Rattle.std.specs.Int.{w32}
use Rattle.theory.specs.Wire.{front, le32}
use Rattle.frames.proofs.Puts.{put_signed}
use Rattle.frames.proofs.writing.setup_bytes.Goals as goal

pub returns : goal.returns
returns c =
    let x = c.args.setup.now in
    let s0 : c.put_front.new.bytes ≡ front 40 0 5 ++ replicate 32 0 = c.put_front.ensures in
    let f1 : SFits w32 x.term_offset = search rules in
    let s1 : c.put_i32.new.bytes ≡ front 40 0 5 ++ le32 x.term_offset ++ replicate 28 0 = put_signed 8 12 _ _ _ x.term_offset f1 s0 c.put_i32.ensures in
    let f2 : SFits w32 x.session = search rules in
    let s2 : c.put_i32-2.new.bytes ≡ front 40 0 5 ++ le32 x.term_offset ++ le32 x.session ++ replicate 24 0 = put_signed 12 16 _ _ _ x.session f2 s1 c.put_i32-2.ensures in
    let f3 : SFits w32 x.stream = search rules in
    let s3 : c.put_i32-3.new.bytes ≡ front 40 0 5 ++ le32 x.term_offset ++ le32 x.session ++ le32 x.stream ++ replicate 20 0 = put_signed 16 20 _ _ _ x.stream f3 s2 c.put_i32-3.ensures in
    let f4 : SFits w32 x.initial_term_id = search rules in
    let s4 : c.put_i32-4.new.bytes ≡ front 40 0 5 ++ le32 x.term_offset ++ le32 x.session ++ le32 x.stream ++ le32 x.initial_term_id ++ replicate 16 0 = put_signed 20 24 _ _ _ x.initial_term_id f4 s3 c.put_i32-4.ensures in
    let f5 : SFits w32 x.active_term_id = search rules in
    let s5 : c.put_i32-5.new.bytes ≡ front 40 0 5 ++ le32 x.term_offset ++ le32 x.session ++ le32 x.stream ++ le32 x.initial_term_id ++ le32 x.active_term_id ++ replicate 12 0 = put_signed 24 28 _ _ _ x.active_term_id f5 s4 c.put_i32-5.ensures in
    let f6 : SFits w32 x.term_length = search rules in
    let s6 : c.put_i32-6.new.bytes ≡ front 40 0 5 ++ le32 x.term_offset ++ le32 x.session ++ le32 x.stream ++ le32 x.initial_term_id ++ le32 x.active_term_id ++ le32 x.term_length ++ replicate 8 0 = put_signed 28 32 _ _ _ x.term_length f6 s5 c.put_i32-6.ensures in
    let f7 : SFits w32 x.mtu = search rules in
    let s7 : c.put_i32-7.new.bytes ≡ front 40 0 5 ++ le32 x.term_offset ++ le32 x.session ++ le32 x.stream ++ le32 x.initial_term_id ++ le32 x.active_term_id ++ le32 x.term_length ++ le32 x.mtu ++ replicate 4 0 = put_signed 32 36 _ _ _ x.mtu f7 s6 c.put_i32-7.ensures in
    let f8 : SFits w32 x.ttl = search rules in
    let s8 : c.put_i32-8.new.bytes ≡ front 40 0 5 ++ le32 x.term_offset ++ le32 x.session ++ le32 x.stream ++ le32 x.initial_term_id ++ le32 x.active_term_id ++ le32 x.term_length ++ le32 x.mtu ++ le32 x.ttl = put_signed 36 40 _ _ _ x.ttl f8 s7 c.put_i32-8.ensures in
    s8
