-- What the plans are made of, and why what an end is told makes none.
use Rattle.std.specs.Prelude.{nat_eq, not, length, ◌&&◌, ◌≡◌, ◌+◌, ◌*◌, ◌%◌, ◌<◌, ◌⊎◌, ℕ, ℤ, Bool, List, pos, Option, None, Some, unwrap_or, if◌then◌else◌}
use Rattle.theory.specs.Loss as loss
use Rattle.theory.specs.Position.{Geometry, IsGeometry, IsMtu, IsTermLength, count_of}
use Rattle.messages.specs.declared.form.Form.{Form}
use Rattle.messages.specs.declared.form.Form.TheVariants.{Blocks, Lines}
use Rattle.channel.specs.Channels.{IsChannel, IsFirstFault}
use Rattle.channel.specs.Hosts.{is_here}
use Rattle.channel.specs.declared.channel.Channel.{Channel}
use Rattle.channel.specs.declared.channel.Start.{Start}
use Rattle.options.specs.declared.ends.ids.Drawn.{Drawn}
use Rattle.options.specs.declared.ends.options.EndOptions.{EndOptions}
use Rattle.options.specs.declared.ends.options.PublishOptions.{PublishOptions}
use Rattle.options.specs.declared.ends.options.SubscribeOptions.{SubscribeOptions}
use Rattle.options.specs.declared.ends.plans.EndPlan.{EndPlan}
use Rattle.options.specs.declared.ends.plans.PublishPlan.{PublishPlan}
use Rattle.options.specs.declared.ends.plans.SubscribePlan.{SubscribePlan}
use Rattle.options.specs.declared.ends.fault.EndFault.{EndFault}
use Rattle.options.specs.declared.ends.fault.EndFault.TheVariants as faults

abbrev pub rates_of : EndOptions → loss.Rates
rates_of o = record { drop = o.loss; repeat = o.repeat; hold = o.hold }

abbrev pub form_of : Bool → Form
form_of blocks = if blocks then Blocks else Lines

-- where the channel says, and all else as it was told
pub record IsEndPlan (o : EndOptions) (c : Channel) (p : EndPlan) : Type 0 where
  pub transport : p.transport ≡ c.transport
  pub stream : p.stream ≡ pos o.stream
  pub chances : p.rates ≡ rates_of o
  pub seed : p.seed ≡ o.seed
  pub form : p.form ≡ form_of o.blocks
  pub counters : p.counters ≡ o.counters

-- ---- a publisher

-- the id of the first term: the one that is named, or a drawn one
abbrev pub first_term : Option Start → Drawn → ℤ
first_term None d = d.initial_term_id
first_term (Some s) d = s.initial_term_id

abbrev pub term_of : Channel → ℕ
term_of c = unwrap_or c.term_length 1048576

-- there are endpoints besides the channel's
abbrev pub are_several : PublishOptions → Bool
are_several o = not (nat_eq (length o.to.items) 0)

-- to this machine alone 7,680 bytes, and to another one or to several endpoints 1,408
abbrev pub usual_mtu : Channel → Bool → ℕ
usual_mtu c several = if is_here c.transport.endpoint.host && not several then 7680 else 1408

abbrev pub mtu_of : Channel → Bool → ℕ
mtu_of c several = unwrap_or c.mtu (usual_mtu c several)

abbrev pub geometry_of : Channel → Bool → Drawn → Geometry
geometry_of c several d = record { term_length = term_of c; mtu = mtu_of c several; initial_term_id = first_term c.start d }

-- a term that isn't before the first one, and whole units below that term's end
pub record IsPlace (s : Start) (g : Geometry) (start : ℕ) : Type 0 where
  pub count : ℕ
  pub counted : count_of g s.term_id ≡ pos count
  pub unit : s.term_offset % 32 ≡ 0
  pub inside : s.term_offset < g.term_length
  pub here : start ≡ count * g.term_length + s.term_offset

-- it starts at 0, or where the term and its offset say
abbrev pub StartsAt : Option Start → Geometry → ℕ → Type 0
StartsAt None g start = start ≡ 0
StartsAt (Some s) g start = IsPlace s g start

pub record IsPublishPlanWith (o : PublishOptions) (d : Drawn) (c : Channel) (p : PublishPlan) : Type 0 where
  pub end : IsEndPlan o.end c p.end
  pub shape : p.geometry ≡ geometry_of c (are_several o) d
  pub session : p.session ≡ unwrap_or c.session_id d.session
  pub starts : StartsAt c.start (geometry_of c (are_several o) d) p.start
  pub linger : p.linger ≡ o.linger * 1000000000
  pub wait : p.wait ≡ o.wait * 1000000000

-- the text is a channel, and the plan is the one of that
abbrev pub IsPublishPlanOf : PublishOptions → Drawn → PublishPlan → Type 0
IsPublishPlanOf o d p = (c : Channel) × IsChannel o.end.channel.now c × IsPublishPlanWith o d c p

-- what is wrong with a channel that was read; the first fault is judged first
abbrev pub IsPublishFault : PublishOptions → Channel → Drawn → EndFault → Type 0
IsPublishFault o c d (faults.Channel fault) = ⊥
IsPublishFault o c d (faults.TermLength bytes) = (bytes ≡ term_of c) × (¬ IsTermLength bytes)
IsPublishFault o c d (faults.Mtu bytes) = (bytes ≡ mtu_of c (are_several o)) × IsTermLength (term_of c) × (¬ IsMtu (term_of c) bytes)
IsPublishFault o c d faults.Start = IsGeometry (geometry_of c (are_several o) d) × ((start : ℕ) → StartsAt c.start (geometry_of c (are_several o) d) start → ⊥)
IsPublishFault o c d faults.Rates = IsGeometry (geometry_of c (are_several o) d) × ((start : ℕ) × StartsAt c.start (geometry_of c (are_several o) d) start) × (1000 < o.end.loss + o.end.repeat + o.end.hold)

-- the text is no channel
abbrev pub IsNoChannel : List ℕ → EndFault → Type 0
IsNoChannel text (faults.Channel fault) = IsFirstFault text fault
IsNoChannel text (faults.TermLength bytes) = ⊥
IsNoChannel text (faults.Mtu bytes) = ⊥
IsNoChannel text faults.Start = ⊥
IsNoChannel text faults.Rates = ⊥

-- the text is no channel, or one with this fault
abbrev pub ExplainsNoPublishPlan : PublishOptions → Drawn → EndFault → Type 0
ExplainsNoPublishPlan o d f = IsNoChannel o.end.channel.now f ⊎ ((c : Channel) × IsChannel o.end.channel.now c × IsPublishFault o c d f)

-- ---- a subscriber

-- for how many seconds without a datagram: as it was told; where nothing was told and it ends with the stream, 30
abbrev pub quiet_of : SubscribeOptions → ℕ
quiet_of o = if o.once && nat_eq o.quiet 4294967295 then 30 else o.quiet

-- the longest term that it takes: the one that is named, or the longest that there is
abbrev pub greatest_term_of : Channel → ℕ
greatest_term_of c = unwrap_or c.term_length 16777216

pub record IsSubscribePlanWith (o : SubscribeOptions) (d : Drawn) (c : Channel) (p : SubscribePlan) : Type 0 where
  pub end : IsEndPlan o.end c p.end
  pub session : p.session ≡ c.session_id
  pub greatest_term : p.greatest_term ≡ greatest_term_of c
  pub legal : IsTermLength p.greatest_term
  pub receiver : p.receiver ≡ d.receiver
  pub messages : p.messages ≡ o.messages
  pub quiet : p.quiet ≡ quiet_of o * 1000000000
  pub once : p.once ≡ o.once
  pub sessions : p.sessions ≡ o.sessions

-- the text is a channel, and the plan is the one of that
abbrev pub IsSubscribePlanOf : SubscribeOptions → Drawn → SubscribePlan → Type 0
IsSubscribePlanOf o d p = (c : Channel) × IsChannel o.end.channel.now c × IsSubscribePlanWith o d c p

-- the rates pass a thousand
abbrev pub IsRatesFault : EndOptions → EndFault → Type 0
IsRatesFault o f = (f ≡ faults.Rates) × (1000 < o.loss + o.repeat + o.hold)

-- what is wrong with a channel that was read: it names a length that no term has; and only then the rates
abbrev pub IsSubscribeFault : EndOptions → Channel → EndFault → Type 0
IsSubscribeFault o c (faults.Channel fault) = ⊥
IsSubscribeFault o c (faults.TermLength bytes) = (bytes ≡ greatest_term_of c) × (¬ IsTermLength bytes)
IsSubscribeFault o c (faults.Mtu bytes) = ⊥
IsSubscribeFault o c faults.Start = ⊥
IsSubscribeFault o c faults.Rates = IsTermLength (greatest_term_of c) × (1000 < o.loss + o.repeat + o.hold)

-- the text is no channel, or one with this fault
abbrev pub ExplainsNoSubscribePlan : SubscribeOptions → EndFault → Type 0
ExplainsNoSubscribePlan o f = IsNoChannel o.end.channel.now f ⊎ ((c : Channel) × IsChannel o.end.channel.now c × IsSubscribeFault o.end c f)
