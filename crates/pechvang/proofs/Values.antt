-- The machine values of a handle and of a loose box, taken apart and made. Assumes `Logic`.
use Rattle.std.proofs.Common.{◌≡◌, List, [], ◌∷◌, ◌++◌, Bool, true, false, refl, ◌∙◌, lit<}
use lib.Dec.{T}
use mathlib.Core.Bool.{◌&&◌}
use seplogic.Ra.Ura.{Ura}
use mir.Syntax.{impl, tnil, dnil, ty_ptr}
use mir.Val.{Val, vbool, vstruct, vcons, vnil, of_list, has_ty, WT}
use types.Logic.{Logic}
use types.Kit.{Item, Goal, Seq, Step, step, ‵, ◌$◌, move, drop, fsplit, fjoin, fpack, fpick, feq_i, feq_l}
use denote.RattleType.{RattleType, Valss}
use denote.Builtin.{RawPtr, bool}
use denote.RawPtr.{Ptr, block_ptr, null_ptr, ptr_val}
use denote.Steps.{nothing}
use denote.Param.{layout}
use denote.Param.Laws.{Laws}
use denote.Struct.Struct.{within}
use denote.Struct.Owning.{shape}
use Rattle.std.proofs.alloc.Calls.{Al, handle_tells}
use Rattle.std.specs.declared.alloc.Allocator.{Ghosts}
use Rattle.std.specs.contracts.alloc.Global as heap
use Rattle.std.proofs.alloc.Global.TheLaws as heap_laws
use Rattle.std.specs.declared.alloc.Global.{Global}
use Rattle.std.specs.declared.option.Option.TheVariants.{None, Some}
use Rattle.std.specs.contracts.impls.GlobalAllocator.TheImpl.{ghosts}
use Rattle.std.specs.Box.Ownership.{box_owns}
use Rattle.pechvang.specs.contracts.held.Pass as pass
use Rattle.pechvang.specs.Owned.{Held, handle_owns}
use Rattle.pechvang.specs.contracts.handle.Handle as handle
use Rattle.pechvang.specs.contracts.loose.Loose as loose

-- a handle's three parts
abbrev pub word : Val → Val → Bool → Val
word at h y = vstruct (vcons at (vcons h (vcons (vbool y) vnil)))

abbrev pub of_heap : Al
of_heap = record { row = heap.the_row; laws = heap_laws.the_row_laws; g = ghosts; d = impl [] tnil dnil; drops = impl [] tnil dnil }

abbrev pub Fits : Val → Type 0
Fits h = T (has_ty (layout heap.the_row) h) × WT h

both : (x y : Bool) → T x → T y → T (x && y)
both true true s t = tt
both true false s t = absurd t
both false y s t = absurd s

pub at_good : (p : Ptr) → T (has_ty ty_ptr (ptr_val p)) × WT (ptr_val p)
at_good (block_ptr b o) = (tt, tt)
at_good null_ptr = (tt, record { fits = lit< tt })

-- it has its type
pub word_good : (p : Ptr) (h : Val) (y : Bool) → Fits h → T (has_ty (layout handle.the_row) (word (ptr_val p) h y)) × WT (word (ptr_val p) h y)
word_good p h y fits = let at = at_good p in (both _ _ at.0 (both _ _ fits.0 tt), (at.1, (fits.1, (tt, tt))))

-- ---- a handle

module _ {M : Type 1} {𝓤 : Ura M} {𝓛 : Logic 𝓤} {K : Type 0} {Γ : List (Item 𝓤)} {G : Goal 𝓤 𝓛.H} where
  -- what is owned of a handle is its three parts and what they stand for
  pub word_out : K → (d : handle.the_row.Denot) (us : List Val)
      → ((h : Val) → us ≡ word (ptr_val d.at) h d.is_open ∷ [] → Fits h → Seq K 𝓛 (‵ (handle_owns d.is_open d.held d.at d.heap) ∷ ‵ (heap.the_row.own_val d.heap (h ∷ [])) ∷ Γ) G)
      → Seq K 𝓛 (‵ (handle.the_row.own_val d us) ∷ Γ) G
  word_out t d us k =
      fsplit t $ fpick t (λ vss. fsplit t $ feq_l t (λ whole. fsplit t $ feq_l t (λ at. fsplit t $ handle_tells of_heap t d.heap vss.1.0 (λ h of fits. move t (1 ∷ []) $ fsplit t $ feq_l t (λ said. drop t $ move t (1 ∷ []) $
      k h (whole ∙ (λ j. vstruct (of_list (at j ++ (of j ++ (said j ++ [])))) ∷ [])) fits)))))

  pub word_in : K → (p : Ptr) (a : Global) (y : Bool) (x : Held) (h : Val)
      → Step K 𝓛 (‵ (handle.the_row.own_val (record { at = p; heap = a; is_open = y; held = x }) (word (ptr_val p) h y ∷ [])) ∷ Γ) G (‵ (handle_owns y x p a) ∷ ‵ (heap.the_row.own_val a (h ∷ [])) ∷ Γ) G
  word_in t p a y x h = step (λ s. let v : Val = word (ptr_val p) h y in
      nothing t $ feq_i t (List Val) (vbool y ∷ []) (vbool y ∷ []) refl $ fjoin t $ move t (2 ∷ 0 ∷ []) $ fjoin t $ feq_i t (List Val) (ptr_val p ∷ []) (ptr_val p ∷ []) refl $ fjoin t $
      feq_i t (List Val) (v ∷ []) (v ∷ []) refl $ fjoin t $
      fpack t (Valss (RawPtr ∷ (heap.the_field).row ∷ bool ∷ [])) (within (shape handle.the_type) (p, ((heap.the_field).into a, (y, tt))) (v ∷ [])) (ptr_val p ∷ [], (h ∷ [], (vbool y ∷ [], tt))) $ fjoin t $ s)

  -- it holds a pass in a box, or nothing
  pub either_held : K → (y : Bool) (x : Held) (p : Ptr) (a : Global) → (x ≡ None → y ≡ false → Seq K 𝓛 Γ G) → ((d : pass.the_row.Denot) → x ≡ Some d → y ≡ true → Seq K 𝓛 (‵ (box_owns (ghosts.dealloc_token a) pass.the_row p d) ∷ Γ) G)
      → Seq K 𝓛 (‵ (handle_owns y x p a) ∷ Γ) G
  either_held t y None p a none some = feq_l t (λ e. none refl e)
  either_held t y (Some d) p a none some = fsplit t $ feq_l t (λ e. some d refl e)

-- ---- a loose box

module _ (R Z : RattleType) (L : Laws Z) (g : Ghosts Z.Denot) where
  abbrev pub Loose : RattleType
  Loose = loose.the_row R Z g

  abbrev of_its_heap : Al
  of_its_heap = record { row = Z; laws = L; g = g; d = impl [] tnil dnil; drops = impl [] tnil dnil }

  abbrev pub pair : Ptr → Val → Val
  pair p h = vstruct (vcons (ptr_val p) (vcons h vnil))

  pub pair_good : (p : Ptr) (h : Val) → T (has_ty (layout Z) h) × WT h → T (has_ty ty_ptr (ptr_val p) && (has_ty (layout Z) h && true)) × WT (pair p h)
  pair_good p h fits = let at = at_good p in (both (has_ty ty_ptr (ptr_val p)) (has_ty (layout Z) h && true) at.0 (both (has_ty (layout Z) h) true fits.0 tt), (at.1, (fits.1, tt)))

  module _ {M : Type 1} {𝓤 : Ura M} {𝓛 : Logic 𝓤} {K : Type 0} {Γ : List (Item 𝓤)} {G : Goal 𝓤 𝓛.H} where
    pub pair_out : K → (d : Loose.Denot) (us : List Val)
        → ((h : Val) → us ≡ pair d.at h ∷ [] → T (has_ty (layout Z) h) × WT h → Seq K 𝓛 (‵ (box_owns (g.dealloc_token d.heap) R d.at d.value) ∷ ‵ (Z.own_val d.heap (h ∷ [])) ∷ Γ) G)
        → Seq K 𝓛 (‵ (Loose.own_val d us) ∷ Γ) G
    pair_out t d us k =
        fsplit t $ fpick t (λ vss. fsplit t $ feq_l t (λ whole. fsplit t $ feq_l t (λ at. fsplit t $ handle_tells of_its_heap t d.heap vss.1.0 (λ h of fits. move t (1 ∷ []) $ drop t $ move t (1 ∷ []) $
        k h (whole ∙ (λ j. vstruct (of_list (at j ++ (of j ++ []))) ∷ [])) fits))))

    pub pair_in : K → (p : Ptr) (a : Z.Denot) (x : R.Denot) (h : Val)
        → Step K 𝓛 (‵ (Loose.own_val (record { at = p; heap = a; value = x }) (pair p h ∷ [])) ∷ Γ) G (‵ (box_owns (g.dealloc_token a) R p x) ∷ ‵ (Z.own_val a (h ∷ [])) ∷ Γ) G
    pair_in t p a x h = step (λ s. let v : Val = pair p h in
        nothing t $ move t (2 ∷ 0 ∷ []) $ fjoin t $ feq_i t (List Val) (ptr_val p ∷ []) (ptr_val p ∷ []) refl $ fjoin t $ feq_i t (List Val) (v ∷ []) (v ∷ []) refl $ fjoin t $
        fpack t (Valss (RawPtr ∷ Z ∷ [])) (within (shape (loose.the_type R Z g)) (p, (a, tt)) (v ∷ [])) (ptr_val p ∷ [], (h ∷ [], tt)) $ fjoin t $ s)
