-- Octets that are no reply in the layouts of a device: bad ones, and those of one that lost a few.
-- For the clauses of `laws::damaged_replies_are_unread`.
use Rattle.std.proofs.Common.{◌≡◌, ◌⊎◌, ℕ, ◌+◌, ◌/◌, ◌≤◌, Bool, true, false, List, length, inl, inr, refl, sym, ◌∙◌, ap, arith}
use Rattle.std.proofs.lemmas.Bool.Decides.{nat_tests}
use Rattle.std.specs.Prelude.{Option, Some, None, Result, Ok, Err, IfOk, IfSome, IsTrue, if◌then◌else◌, slice_index, unwrap_or}
use Rattle.iol_octets.specs.CheckOctets.{type_bits}
use Rattle.iol_octets.specs.Control.{control_of}
use Rattle.iol_mseq.specs.Shape.{Shape, IsLayout, is_size, kind_of, startup_shape}
use Rattle.iol_mseq.specs.Master.{master_in}
use Rattle.iol_mseq.specs.Replies.{IsGoodReply, answered_od, reply_in}
use Rattle.iol_mseq.specs.declared.master.MasterMsg.{MasterMsg}
use Rattle.iol_mseq.specs.declared.reply.Reply.{Reply}
use Rattle.iol_page.specs.Page.{IsAskedBy, IsPlain, layouts_of, PagesAskForLayouts}
use Rattle.iol_page.specs.declared.page.Layouts.{Layouts}
use Rattle.iol_page.specs.declared.fault.PageFault.{PageFault}
use Rattle.iol_far.specs.declared.mode.DeviceMode.{DeviceMode}
use Rattle.iol_far.specs.declared.mode.DeviceMode.TheVariants.{Startup, Preoperate, Operate}
use Rattle.iol_far.specs.Codec.{layout_by, layout_in, message_in}
use Rattle.iol_far.specs.Laws.{ModesHaveLayouts}
use Rattle.iol_link.specs.Damage.{BadIsUnread, LostOctetsAreUnread}

none_of : (q : Option Reply) → ((r : Reply) → q ≡ Some r → ⊥) → q ≡ None
none_of None h = refl
none_of (Some r) h = absurd (h r refl)

-- Bad octets

reply_good : (l : Shape) (read : Bool) (octets : List ℕ) (r : Reply)
    → reply_in l read octets ≡ Some r → IsGoodReply l read octets
reply_good l read octets r h = grind (arith, nat_tests)

pub bad_octets_are_unread : ModesHaveLayouts → BadIsUnread
bad_octets_are_unread modes page sent octets bad mode message spells =
    none_of _ (λ r e. bad (layout_in page mode) message (modes page mode).0 spells
    (reply_good (layout_in page mode) message.mc.read octets r e))

-- Numbers

-- of two layouts of one type the one has no process data where the other has none
bare_too : (x i o y j p : ℕ) → type_bits (kind_of x i o) ≡ type_bits (kind_of y j p) → i ≡ 0 → o ≡ 0
    → (j ≡ 0) × (p ≡ 0)
bare_too x i o y j p e none without = grind (arith, nat_tests)

-- two without, of one type, differ by no octet of on-request data, or by six at least
far_apart : (x y lost : ℕ) → IsTrue (is_size x) → IsTrue (is_size y)
    → type_bits (kind_of x 0 0) ≡ type_bits (kind_of y 0 0) → 1 ≤ lost → lost ≤ 5
    → y + lost ≡ x → ⊥
far_apart x y lost a b e some few h = grind (arith, nat_tests)

either_way : (read : Bool) (x y lost : ℕ) → 1 ≤ lost → (y + lost ≡ x → ⊥)
    → (if read then y else 0) + lost ≡ (if read then x else 0) → ⊥
either_way true x y lost some never h = never h
either_way false x y lost some never h = absurd (omega (arith, h, some))

-- What octets say of a layout in which they are good

kind_sent : (l : Shape) (sent : List ℕ) (m : MasterMsg) → master_in l sent ≡ Some m
    → slice_index sent 1 / 64 ≡ type_bits l.kind
kind_sent l sent m h = grind (arith, nat_tests)

mc_sent : (l : Shape) (sent : List ℕ) (m : MasterMsg) → master_in l sent ≡ Some m
    → m.mc ≡ control_of (slice_index sent 0)
mc_sent l sent m h = grind (arith, nat_tests)

reply_long : (l : Shape) (read : Bool) (octets : List ℕ) (r : Reply)
    → reply_in l read octets ≡ Some r → length octets ≡ answered_od l read + l.pd_in + 1
reply_long l read octets r h = grind (arith, nat_tests)

abbrev IsBare : Shape → Type 0
IsBare l = (l.pd_in ≡ 0) × (l.pd_out ≡ 0)

-- a message in two layouts, and fewer octets than its reply has in the first
module _ (a b : Shape) (la : IsLayout a) (lb : IsLayout b) (sent octets : List ℕ)
    (m n : MasterMsg) (lost : ℕ) (some : 1 ≤ lost) (few : lost ≤ 5)
    (ga : master_in a sent ≡ Some m) (gb : master_in b sent ≡ Some n)
    (short : length octets + lost ≡ answered_od a m.mc.read + a.pd_in + 1) where
  same_bits : type_bits (kind_of a.od a.pd_in a.pd_out) ≡ type_bits (kind_of b.od b.pd_in b.pd_out)
  same_bits = rw (la.kind, lb.kind) at (sym (kind_sent a sent m ga) ∙ kind_sent b sent n gb)

  same_read : m.mc.read ≡ n.mc.read
  same_read = ap (λ mc. mc.read) (mc_sent a sent m ga ∙ sym (mc_sent b sent n gb))

  shorter : length octets + lost ≡ answered_od a n.mc.read + a.pd_in + 1
  shorter = rw same_read at short

  both_bare : IsBare a → IsBare b → (r : Reply) → reply_in b n.mc.read octets ≡ Some r → ⊥
  both_bare ba bb r h =
      let long = reply_long b n.mc.read octets r h in
      either_way n.mc.read a.od b.od lost some
      (far_apart a.od b.od lost la.od lb.od (rw (ba.0, ba.1, bb.0, bb.1) at same_bits) some few)
      (omega (arith, long, shorter, ba.0, bb.0))

  unread : IsBare a ⊎ (IsBare b ⊎ (a ≡ b)) → (r : Reply) → reply_in b n.mc.read octets ≡ Some r → ⊥
  unread (inl ba) r h =
      both_bare ba (bare_too a.od _ _ b.od _ _ same_bits ba.0 ba.1) r h
  unread (inr (inl bb)) r h =
      both_bare (bare_too b.od _ _ a.od _ _ (sym same_bits) bb.0 bb.1) bb r h
  unread (inr (inr e)) r h =
      let long = reply_long b n.mc.read octets r h in
      let same = rw e at shorter in
      absurd (omega (arith, long, same, some))

-- The modes

pre_bare : (pre : Option Shape) → IfSome pre IsPlain → IsBare (unwrap_or pre startup_shape)
pre_bare None h = (refl, refl)
pre_bare (Some l) h = (h.pd_in, h.pd_out)

preoperate_bare : (page : List ℕ) (asked : Result Layouts PageFault) → IfOk asked (IsAskedBy page)
    → IsBare (layout_by Preoperate asked)
preoperate_bare page (Err fault) h = (refl, refl)
preoperate_bare page (Ok layouts) h = pre_bare layouts.pre h.layouts_are.pre

-- only OPERATE has process data
mode_bare : PagesAskForLayouts → (page : List ℕ) (mode : DeviceMode)
    → IsBare (layout_in page mode) ⊎ (mode ≡ Operate)
unfolding layout_in
mode_bare asks page Startup = inl (refl, refl)
mode_bare asks page Preoperate = inl (preoperate_bare page (layouts_of page) (asks page))
mode_bare asks page Operate = inr refl

pub lost_octets_are_unread : ModesHaveLayouts → PagesAskForLayouts → LostOctetsAreUnread
unfolding message_in
lost_octets_are_unread modes asks page x sent octets m lost ga some few short y n gb =
    none_of _ (unread (layout_in page x) (layout_in page y) (modes page x).0 (modes page y).0 sent
    octets m n lost some few ga gb short (by (mode_bare asks page x) (mode_bare asks page y)))
  where
    by : IsBare (layout_in page x) ⊎ (x ≡ Operate) → IsBare (layout_in page y) ⊎ (y ≡ Operate)
        → IsBare (layout_in page x)
        ⊎ (IsBare (layout_in page y) ⊎ (layout_in page x ≡ layout_in page y))
    by (inl a) b = inl a
    by (inr a) (inl b) = inr (inl b)
    by (inr a) (inr b) = inr (inr (ap (layout_in page) (a ∙ sym b)))
