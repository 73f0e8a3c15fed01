-- A `Vec` of bytes is its bytes and the way back. Assumes `Logic`.
use Rattle.std.proofs.Common.{◌≡◌, ℕ, ◌<◌, List, [], ◌∷◌, length, true, refl, sym, arith, Vec}
use Rattle.std.proofs.lemmas.Bool.{ne_eqb, not_from_false}
use Rattle.std.proofs.lemmas.List.{with_items_is}
use seplogic.Ra.Ura.{Ura}
use mir.Val.{Val}
use base.Fraction.{full_share}
use base.Logic.{SProp, ent, ex, guard, sep, wand, never, id⊢}
use base.Fml.{Fml, fex, fsep, feq}
use types.Logic.{Logic, sem}
use types.Kit.{‵, ◌$◌, ◌∵◌, !, qed, move, drop, frame, each, assume, show, check, use1, fsplit, fjoin, fpack, feq_l, feq_i, rewrite, done}
use denote.RattleType.{RattleType}
use denote.Builtin.{u8}
use denote.Array.{Array}
use denote.Param.Laws.{Laws}
use denote.RawPtr.{Ptr, block_ptr, lies_at, in_block, in_a_block}
use denote.RawPtr.Bytes.{bytes, bytes_apart, bytes_whole}
use Rattle.std.specs.Allocator.{block_with_items}
use Rattle.std.specs.Vec.{with_items}
use Rattle.std.specs.declared.alloc.Global.{Global}
use Rattle.std.specs.contracts.alloc.Global as heap
use Rattle.std.specs.contracts.impls.GlobalAllocator.TheImpl.{ghosts}
use Rattle.std.proofs.alloc.Global.TheLaws as heap_laws
use Rattle.std_alloc.specs.Vec.Ownership.{owns_if, has_block}
use Rattle.std_alloc.specs.contracts.vec.Vec as V
use Rattle.std_alloc.proofs.vec.Vec.TheLaws as vec_laws
use Rattle.bytes.proofs.Lodging.{byte_laws}
use Rattle.bytes.proofs.Walks.{plainly, one, one_made}
use Rattle.region.specs.contracts.region.Emptied.TheInside as Inside
use Rattle.region.specs.Owned.{way_back}

-- a `Vec` on the heap
abbrev pub Bytes : RattleType
Bytes = V.the_row u8 heap.the_row ghosts

abbrev pub bytes_laws : Laws Bytes
bytes_laws = vec_laws.the_row_laws u8 heap.the_row ghosts byte_laws heap_laws.the_row_laws

abbrev pub Inner : Type 0
Inner = Inside.the_row.Denot

-- n bytes come back at the machine value u
abbrev pub Back : Val → ℕ → ℕ → ℕ → Fml
Back u n b o = way_back n b o Inner (λ x. x.vec.items) (λ x. (plainly (Bytes ∷ [])).own_val (x.vec, tt) (one u ∷ []))

module _ {M : Type 1} {𝓤 : Ura M} (𝓛 : Logic 𝓤) (v : Vec ℕ Global) (u : Val) where
  abbrev pub Carved : ℕ × ℕ → SProp 𝓤
  Carved at = guard 𝓤 (v.ptr ≡ block_ptr at.0 at.1) (sep 𝓤 (sem 𝓛 (bytes full_share v.items at.0 at.1)) (sem 𝓛 (Back u v.len at.0 at.1)))

  pub carve : 0 < v.len → ent 𝓤 (sem 𝓛 (Bytes.own_val v (u ∷ []))) (ex 𝓤 Carved)
  carve some =
      let live : has_block v.cap ≡ true = not_from_false _ (ne_eqb v.cap 0 (λ e. omega (arith, v.ok.1))) in
      let Blk = λ (p : Ptr) (xs : List ℕ). block_with_items (ghosts.dealloc_token v.alloc) u8 p v.len v.cap xs in
      qed 𝓛 (‵ (Bytes.own_val v (u ∷ [])) ∷ []) ∵ fsplit ! $ move ! (1 ∷ []) $ fsplit ! $ move ! (1 ∷ []) $
      in_a_block ! v.ptr (λ p. in_block p (owns_if (has_block v.cap) (Blk p v.items))) (id⊢ 𝓤 (never 𝓤)) (λ b o at.
      let Given = λ (xs : List ℕ). fsep (feq ℕ (length xs) v.len) (bytes full_share xs b o) in
      let One = λ (xs : List ℕ) (x : Inner). fsep (feq (List ℕ) x.vec.items xs) ((plainly (Bytes ∷ [])).own_val (x.vec, tt) (one u ∷ [])) in
      show ! Carved (b, o) $ check ! at $
      rewrite ! 0 (λ y. ‵ (owns_if y (Blk (block_ptr b o) v.items))) live refl $ fsplit ! $
      use1 𝓛 (‵ (fsep (feq ℕ (length v.items) v.len) (bytes full_share v.items b o))) (bytes_apart 𝓛 full_share v.len v.items b o) $ fsplit ! $ drop ! $ frame ! $
      -- [the spare room and the right to free; the bound; the fields]
      each ! (λ xs. wand 𝓤 (sem 𝓛 (Given xs)) (sem 𝓛 (fex Inner (One xs)))) (λ xs. assume ! (‵ (Given xs)) $
      let Long = length xs ≡ v.len in
      use1 𝓛 (‵ (Given xs)) (id⊢ 𝓤 _) $ fsplit ! $ feq_l ! (λ (long : Long). feq_i ! ℕ (length xs) v.len long $ fjoin ! $
      use1 𝓛 (‵ (lies_at (Array u8 v.len) full_share (block_ptr b o) xs)) (bytes_whole 𝓛 full_share v.len xs b o) $ fjoin ! $
      let zs = (with_items v xs).items in
      rewrite ! 0 (λ ys. ‵ (Blk (block_ptr b o) ys)) (sym (with_items_is v xs long)) refl $ rewrite ! 0 (λ y. ‵ (owns_if y (Blk (block_ptr b o) zs))) (sym live) refl $
      rewrite ! 0 (λ p. ‵ (in_block p (owns_if (has_block v.cap) (Blk p zs)))) (sym at) refl $
      move ! (1 ∷ 0 ∷ []) $ fjoin ! $ move ! (1 ∷ 0 ∷ []) $ fjoin ! $ one_made ! Bytes (with_items v xs) u $
      feq_i ! (List ℕ) zs xs (with_items_is v xs long) $ fjoin ! $ fpack ! Inner (One xs) (record { vec = with_items v xs }) $ done !)))
