-- Reads, writes, commands, ticks and the reset account for their bytes.
use Rattle.std.proofs.Common.{◌≡◌, ℕ, ◌≤◌, Bool, true, false, cond, not, ◌&&◌, eqb, ltb, List, [], ◌∷◌, ◌++◌, length, get_or, drop, is_some, Some, None, Option, sym, refl, ap, ◌∙◌, subst, true≢false, append-nil, arith}
use mathlib.Core.Bool.{false≢true}
use lib.Bits.{bit_and}
use Rattle.std.proofs.lemmas.Bool.{and_parts, not-true, eqb-true}
use Rattle.bus.specs.declared.phase.Phase.{Phase}
use Rattle.bus.specs.declared.wish.Wish.{Wish}
use Rattle.registers.specs.declared.state.State.{State}
use Rattle.registers.specs.declared.state.State.TheVariants.{Idle, Arbitrating, Selecting, Waiting, Asked, Transferring, Disabled}
use Rattle.registers.specs.declared.register.Register.{Register}
use Rattle.registers.specs.declared.register.Register.TheVariants.{Data, Command as CommandRegister, Control, DestinationId, AuxiliaryStatus, Id, Interrupt, SourceId, DiagnosticStatus, CounterHigh, CounterMiddle, CounterLow}
use Rattle.registers.specs.declared.command.Command.{Command}
use Rattle.registers.specs.declared.command.Command.TheVariants.{ChipReset, Disconnect, Pause, SetAtn, MessageAccepted, ChipDisable, Unused, Select, Transfer, Invalid}
use Rattle.chip.specs.declared.chip.Written.{Written}
use Rattle.registers.specs.declared.answer.Reaction.TheVariants.{Nothing}
use Rattle.registers.specs.declared.refusal.Refusal.{Refusal}
use Rattle.registers.specs.declared.refusal.Refusal.TheVariants.{NoRegister, ReadOnly, ChipDisabled, InterruptPending, Busy, NoByte, Dma}
use Rattle.account.proofs.Shares.{other_share, idle_share, lost_share, read_share}
use Rattle.account.proofs.Phases.{in_data_in_none, in_data_in_append, out_code}
use Rattle.account.proofs.Fate.{Fate, Quiet, none_taken, none_chosen, at_rest, either, nothing, silently, stays, refuses, hears}
use Rattle.bus.specs.Phases.{phase_number, is_input, in_data_in}
use Rattle.chip.specs.Orders.{resets, started, accepts, offered, shut_down, commanded}
use Rattle.chip.specs.Outcomes.{Outcome, gives, silent, refused, dropping_ack, raised, gone_idle, emptied, made_new, held_count, held_phase, written_phase, losing, quiet, valued, loss, is_empty, in_dma, wants_byte}
use Rattle.chip.specs.Places.{places}
use Rattle.chip.specs.Reads.{shows, takes_data, puts_data, cleared, read_register, read_at, reads, unless_busy, write_register, write_at, is_chip_reset, writes, by_dma, dma_reads, dma_writes, ticks}
use Rattle.chip.specs.Views.{View, to_control, to_destination, to_counter, to_paused, to_atn, to_ack, to_received}
use Rattle.account.specs.Fates.{entry, Share, held}
use Rattle.account.specs.Sound.{SoundOf, Outward}
use Rattle.registers.specs.Commands.{command_of, is_select, is_transfer}
use Rattle.registers.specs.Registers.{register_at}
use Rattle.registers.specs.States.{is_transferring, is_busy, is_connected, is_free, is_selecting, is_disabled}
use Rattle.registers.specs.declared.call.Call.TheVariants.{Read as read, Write as write, DmaRead as dma_read, DmaWrite as dma_write, Tick as tick, Reset as reset}
use Rattle.account.specs.RefusalTable.{there, is_data, is_command, discards}
use Rattle.registers.specs.declared.call.Call.{Call}
use Rattle.account.specs.Laws.{reads_data, may_lose}

free_rests : (s : State) → is_free s ≡ true → is_transferring s ≡ false
free_rests Idle e = refl
free_rests Arbitrating e = refl
free_rests Selecting e = refl
free_rests Waiting e = refl
free_rests Asked e = refl
free_rests Transferring e = absurd (false≢true e)
free_rests Disabled e = refl

selecting_rests : (s : State) → is_selecting s ≡ true → is_transferring s ≡ false
selecting_rests Idle e = refl
selecting_rests Arbitrating e = refl
selecting_rests Selecting e = refl
selecting_rests Waiting e = refl
selecting_rests Asked e = refl
selecting_rests Transferring e = absurd (false≢true e)
selecting_rests Disabled e = refl

-- all that is held is lost: the received bytes, or a written one, which is none of Data In
all_lost : (c : Call) (k : ℕ) (p : Phase) (xs : List ℕ) (o : Option Written) (u : View) → reads_data c ≡ false → may_lose c k ≡ true → Outward o → Share (entry c k (loss (held_count xs o) (held_phase p xs o) u)) (in_data_in p xs)
all_lost c k p (b ∷ bs) o u r m w = lost_share c k _ p (b ∷ bs) r m refl refl
all_lost c k p [] None u r m w = subst (λ bs. Share (entry c k (loss 0 0 u)) bs) (sym (in_data_in_none p)) (nothing c k _ refl)
all_lost c k p [] (Some x) u r m w = subst (λ bs. Share (entry c k (loss 1 (phase_number x.phase) u)) bs) (sym (in_data_in_none p)) (other_share c k _ (out_code x.phase w))

-- a written byte lost by a command is none of Data In
written_lost : (c : Call) (k : ℕ) (o : Option Written) (u : View) → Outward o → Share (entry c k (loss (cond (is_some o) 1 0) (written_phase o) u)) []
written_lost c k None u w = nothing c k _ refl
written_lost c k (Some x) u w = other_share c k _ (out_code x.phase w)

module _ (c : Call) (v : View) (w : Wish) (h : SoundOf v) (q : Quiet v.flags.ack w) where
  stay : Fate c v w (silent v)
  stay = stays v h refl q

  no : (n : Refusal) → Fate c v w (refused n v)
  no n = refuses n h q

  -- ACK goes off, and the bytes stay
  hangs_up : (u : View) → SoundOf u → held u ≡ held v → u.flags.ack ≡ false → Fate c v w (gives u (dropping_ack v.flags.ack) (quiet u))
  hangs_up u s e f = record { share = []; is = nothing c _ (quiet u) refl; sound = s; all = ap (λ r. held v ++ r) (none_taken w v.flags.ack q) ∙ append-nil _ ∙ sym e; acked = λ t. absurd (false≢true (sym f ∙ t)); chosen = none_chosen v.flags.ack }

  -- ACK goes off, and the bytes are lost
  loses : reads_data c ≡ false → may_lose c v.registers.command ≡ true → (u : View) → SoundOf u → held u ≡ [] → u.flags.ack ≡ false → Fate c v w (gives u (dropping_ack v.flags.ack) (losing v u))
  loses r m u s e f = record { share = held v; is = all_lost c _ v.latched v.received v.written u r m h.outward; sound = s; all = ap (λ r. held v ++ r) (none_taken w v.flags.ack q ∙ sym e); acked = λ t. absurd (false≢true (sym f ∙ t)); chosen = none_chosen v.flags.ack }

  take_from : (xs : List ℕ) → v.received ≡ xs → is_empty xs ≡ false → reads_data c ≡ true → Fate c v w (gives (to_received (drop 1 xs) v) Nothing (valued (get_or xs 0 0) (phase_number v.latched) (to_received (drop 1 xs) v)))
  take_from [] e some r = absurd (true≢false some)
  take_from (b ∷ bs) e some r =
      record {
        share = in_data_in v.latched (b ∷ []);
        is = read_share c _ v.latched b _ r;
        sound = record { settled = λ m. absurd (none (h.settled m)); info = λ m p. absurd (none (h.info m p)); alone = h.alone; calm = h.calm; outward = h.outward; few = let n : length v.received ≤ places = h.few in omega (arith, ap length e) };
        all = append-nil _ ∙ ap (in_data_in v.latched) e ∙ sym (in_data_in_append v.latched (b ∷ []) bs);
        acked = λ t. (refl, q t);
        chosen = λ t. absurd (false≢true t);
      }
    where
      none : v.received ≡ [] → ⊥
      none z = omega (arith, ap length (sym e ∙ z))

  take : reads_data c ≡ true → Fate c v w (takes_data v)
  take r = either (is_empty v.received) (λ _. no NoByte) (λ some. take_from v.received refl some r)

  puts : reads_data c ≡ false → (x : ℕ) → Fate c v w (puts_data v x)
  puts r x =
      either (wants_byte v)
      (λ e. let out = not-true _ (and_parts (not (is_input v.latched)) _ (and_parts (is_transferring v.state) _ e).1).0 in
      silently _ _ (idle_share c _ _ r refl) (record { settled = h.settled; info = h.info; alone = λ _ i. absurd (false≢true (sym out ∙ i)); calm = h.calm; outward = out; few = h.few }) refl q)
      (λ _. no NoByte)

  resets_all : reads_data c ≡ false → may_lose c v.registers.command ≡ true → Fate c v w (resets v)
  resets_all r m = loses r m (made_new v.id) (at_rest refl refl tt) refl refl

  start_rest : (t : Bool) (x : ℕ) → v.received ≡ [] → is_transferring v.state ≡ false → Fate c v w (started t Arbitrating v x)
  start_rest true x e m = silently _ _ (written_lost c _ v.written _ h.outward) (at_rest refl e tt) refl q
  start_rest false x e m = silently _ _ (written_lost c _ v.written _ h.outward) (at_rest m e tt) refl q

  start_transfer : (t : Bool) (x : ℕ) → v.received ≡ [] → is_transferring v.state ≡ false → v.registers.interrupt ≡ 0 → Fate c v w (started t Transferring v x)
  start_transfer true x e m i = silently _ _ (written_lost c _ v.written _ h.outward) (record { settled = λ _. e; info = λ _ _. e; alone = λ _ _. refl; calm = λ _. i; outward = tt; few = h.few }) refl q
  start_transfer false x e m i = silently _ _ (written_lost c _ v.written _ h.outward) (at_rest m e tt) refl q

  accept : (s : State) → v.state ≡ s → v.registers.interrupt ≡ 0 → (o : Command) (x : ℕ) → Fate c v w (accepts s v o x)
  accept Idle e i o x = start_rest (is_select o) x (h.settled (ap is_transferring e)) (ap is_transferring e)
  accept Arbitrating e i o x = no Busy
  accept Selecting e i o x = no Busy
  accept Waiting e i o x = no Busy
  accept Asked e i o x = start_transfer (is_transfer o) x (h.settled (ap is_transferring e)) (ap is_transferring e) i
  accept Transferring e i o x = no Busy
  accept Disabled e i o x = no Busy

  offer : (o : Command) (x : ℕ) → Fate c v w (offered v o x)
  offer o x = either (eqb v.registers.interrupt 0) (λ i. accept v.state refl (eqb-true _ _ i) o x) (λ _. no InterruptPending)

  command : reads_data c ≡ false → (o : Command) (x : ℕ) → ((o ≡ ChipReset) → may_lose c v.registers.command ≡ true) → ((o ≡ Disconnect) → may_lose c v.registers.command ≡ true) → ((o ≡ ChipDisable) → may_lose c v.registers.command ≡ true) → Fate c v w (commanded v o x)
  command r ChipReset x a b d = resets_all r (a refl)
  command r Disconnect x a b d = either (is_connected v.state) (λ _. loses r (b refl) (gone_idle (emptied v)) (at_rest refl refl tt) (in_data_in_none v.latched) refl) (λ _. stay)
  command r Pause x a b d = either (is_free v.state && eqb v.registers.interrupt 0) (λ e. hangs_up (to_paused true (gone_idle v)) (at_rest refl (h.settled (free_rests _ (and_parts (is_free v.state) _ e).0)) h.outward) refl refl) (λ _. stay)
  command r SetAtn x a b d = either (is_connected v.state) (λ _. stays (to_atn true v) h refl q) (λ _. stay)
  command r MessageAccepted x a b d = either (v.flags.ack && not (is_busy v.state)) (λ e. hears (to_ack false v) 0 h refl (q (and_parts v.flags.ack _ e).0) refl) (λ _. stay)
  command r ChipDisable x a b d = loses r (d refl) (shut_down v) (at_rest refl refl tt) (in_data_in_none v.latched) refl
  command r Unused x a b d = stay
  command r Select x a b d = offer Select x
  command r Transfer x a b d = offer Transfer x
  command r Invalid x a b d = offer Invalid x

  if_idle : (u : View) → Fate c v w (silent u) → Fate c v w (unless_busy v u)
  if_idle u t = either (is_busy v.state) (λ _. no Busy) (λ _. t)

  show : (x : ℕ) → Fate c v w (shows x v)
  show x = silently v _ (nothing c _ _ refl) h refl q

  read_of : (n : Register) → (n ≡ Data → reads_data c ≡ true) → Fate c v w (read_register v n)
  read_of Data r = either (in_dma v) (λ _. no Dma) (λ _. take (r refl))
  read_of CommandRegister r = show _
  read_of Control r = show _
  read_of DestinationId r = show _
  read_of AuxiliaryStatus r = show _
  read_of Id r = show _
  read_of Interrupt r = silently (cleared v) _ (nothing c _ _ refl) (record { settled = h.settled; info = h.info; alone = h.alone; calm = λ _. refl; outward = h.outward; few = h.few }) refl q
  read_of SourceId r = show _
  read_of DiagnosticStatus r = show _
  read_of CounterHigh r = show _
  read_of CounterMiddle r = show _
  read_of CounterLow r = show _

  read_there : (o : Option Register) → (o ≡ Some Data → reads_data c ≡ true) → Fate c v w (read_at v o)
  read_there None r = no NoRegister
  read_there (Some n) r = read_of n (λ e. r (ap (λ m. Some m) e))

  write_of : reads_data c ≡ false → (n : Register) (x : ℕ) → (n ≡ CommandRegister → Fate c v w (commanded v (command_of x) x)) → Fate c v w (write_register v n x)
  write_of r Data x t = either (in_dma v) (λ _. no Dma) (λ _. puts r x)
  write_of r CommandRegister x t = t refl
  write_of r Control x t = stays (to_control (bit_and x 7) v) h refl q
  write_of r DestinationId x t = if_idle _ (stays (to_destination (bit_and x 7) v) h refl q)
  write_of r AuxiliaryStatus x t = no ReadOnly
  write_of r Id x t = no ReadOnly
  write_of r Interrupt x t = no ReadOnly
  write_of r SourceId x t = no ReadOnly
  write_of r DiagnosticStatus x t = no ReadOnly
  write_of r CounterHigh x t = if_idle _ (stays (to_counter _ v) h refl q)
  write_of r CounterMiddle x t = if_idle _ (stays (to_counter _ v) h refl q)
  write_of r CounterLow x t = if_idle _ (stays (to_counter _ v) h refl q)

  write_there : reads_data c ≡ false → (o : Option Register) (x : ℕ) → (o ≡ Some CommandRegister → Fate c v w (commanded v (command_of x) x)) → Fate c v w (write_at v o x)
  write_there r None x t = no NoRegister
  write_there r (Some n) x t = write_of r n x (λ e. t (ap (λ m. Some m) e))

  by_dma_fate : (o : Outcome) → Fate c v w o → Fate c v w (by_dma v o)
  by_dma_fate o t = either (is_disabled v.state) (λ _. no ChipDisabled) (λ _. either (in_dma v) (λ _. t) (λ _. no Dma))

module _ (v : View) (w : Wish) (h : SoundOf v) (q : Quiet v.flags.ack w) where
  pub read_fate : (a : ℕ) → Fate (read a) v w (reads v a)
  read_fate a = either (is_disabled v.state) (λ _. no (read a) v w h q ChipDisabled) (λ _. read_there (read a) v w h q (register_at a) (λ e. ap (there is_data) e))

  pub write_fate : (a x : ℕ) → Fate (write a x) v w (writes v a x)
  write_fate a x =
      either (is_disabled v.state && not (is_chip_reset a x)) (λ _. no (write a x) v w h q ChipDisabled)
      (λ _. write_there (write a x) v w h q refl (register_at a) x (λ e. command (write a x) v w h q refl (command_of x) x (may e) (may e) (may e)))
    where
      may : register_at a ≡ Some CommandRegister → {o : Command} → command_of x ≡ o → there is_command (register_at a) && discards (command_of x) ≡ discards o
      may e {o} f = (λ i. there is_command (e i) && discards (f i))

  pub dma_read_fate : Fate dma_read v w (dma_reads v)
  dma_read_fate = by_dma_fate dma_read v w h q _ (take dma_read v w h q refl)

  pub dma_write_fate : (x : ℕ) → Fate (dma_write x) v w (dma_writes v x)
  dma_write_fate x = by_dma_fate (dma_write x) v w h q _ (puts (dma_write x) v w h q refl x)

  pub tick_fate : Fate tick v w (ticks v)
  tick_fate =
      either (is_disabled v.state) (λ _. no tick v w h q ChipDisabled)
      (λ _. either (is_selecting v.state && ltb 0 v.registers.counter)
      (λ e. either (eqb v.registers.counter 1)
      (λ _. hangs_up tick v w h q (raised 4 (gone_idle (to_counter 0 v))) (at_rest refl (h.settled (selecting_rests _ (and_parts (is_selecting v.state) _ e).0)) h.outward) refl refl)
      (λ _. stays (to_counter _ v) h refl q))
      (λ _. stay tick v w h q))

  pub reset_fate : Fate reset v w (resets v)
  reset_fate = resets_all reset v w h q refl refl
